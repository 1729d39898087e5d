-- Maps between slices are maps between the terms that they stand for.
use Rattle.std.proofs.Common.{◌≡◌, Bool, if◌then◌else◌, ℕ, zero, suc, true, false, List, [], ◌∷◌, refl, ap, sym, ◌∙◌, subst, None, Some}
use Rattle.std.specs.Prelude.{slice_get, Option}
use Rattle.std.specs.List.{AllByRecursion}
use Rattle.std.specs.Borrow.{Bor}
use Rattle.si_defs.specs.Terms as terms
use Rattle.si_defs.specs.Substitutions.{Substitution, image, apply}
use Rattle.si_defs.proofs.ListLaws.{all_front, all_back}
use Rattle.si_state.specs.Subsumption.{AreImages, AnswersLeast}
use Rattle.si_flat.specs.declared.Cell.{Cell}
use Rattle.si_flat.specs.declared.Cell.TheVariants as cell
use Rattle.si_flat.specs.declared.Owner.TheVariants.{Entry}
use Rattle.si_flat.specs.Cells.{Symbol, Variable, query, entry, ind, same_variable, Term, Terms, cells_of, cells_of_all, StandsFor}
use Rattle.si_unify.specs.declared.slots.Slots.{Slots}
use Rattle.si_unify.specs.Solving.{slot_of, is_frozen, Equalizes}
use Rattle.si_unify.proofs.Reading.{one_term}
use Rattle.si_defs.specs.Terms.{arguments}
use Rattle.si_subsume.specs.Maps.{IsFlatMap, AnswersFlat, AreOf, StandForAll}
use Rattle.si_subsume.specs.Parts.{AreFixed}
use Rattle.si_subsume.specs.Search.{Slices, CanEnd, AnswersSlices}

-- ---- entries stay
mutual
  stays : (f : Variable → Term) (u : Term) → ((n : ℕ) → f (entry n) ≡ terms.var (entry n)) → AreOf Entry (cells_of u) → terms.substitute f u ≡ u
  stays f (terms.var (query n)) stay h = absurd h.0
  stays f (terms.var (entry n)) stay h = stay n
  stays f (terms.var (ind n)) stay h = absurd h.0
  stays f (terms.app s us) stay h = ap (terms.app s) (all_stay f us stay h.1)

  all_stay : (f : Variable → Term) (us : Terms) → ((n : ℕ) → f (entry n) ≡ terms.var (entry n)) → AreOf Entry (cells_of_all us) → terms.substitute_all f us ≡ us
  all_stay f terms.none stay h = refl
  all_stay f (terms.more u us) stay h =
      ap (λ t. terms.more t (terms.substitute_all f us)) (stays f u stay (all_front _ (cells_of u) (cells_of_all us) h))
      ∙ ap (terms.more u) (all_stay f us stay (all_back _ (cells_of u) (cells_of_all us) h))

abbrev IsOfEntry : Term → Type 0
IsOfEntry u = AreOf Entry (cells_of u)

arguments_of_entry : (us : Terms) → AreOf Entry (cells_of_all us) → AllByRecursion IsOfEntry (terms.list us)
arguments_of_entry terms.none h = tt
arguments_of_entry (terms.more u us) h = (all_front _ (cells_of u) (cells_of_all us) h, arguments_of_entry us (all_back _ (cells_of u) (cells_of_all us) h))

entry_arguments : (u : Term) → AreOf Entry (cells_of u) → AllByRecursion IsOfEntry (terms.list (arguments u))
entry_arguments (terms.var x) h = tt
entry_arguments (terms.app s us) h = arguments_of_entry us h.1

-- ---- no variable of an entry may be bound where these are constants
fixed_cells : (slots : Slots) → slots.freeze_entry ≡ true → (cs : List Cell) → AreOf Entry cs → AreFixed slots cs
fixed_cells slots frozen [] h = tt
fixed_cells slots frozen (cell.App s a n ∷ cs) h = (refl, fixed_cells slots frozen cs h.1)
fixed_cells slots frozen (cell.Query n ∷ cs) h = absurd h.0
fixed_cells slots frozen (cell.Entry n ∷ cs) h = (ap (λ (b : Bool). if b then None else Some (slot_of slots (entry n))) frozen, fixed_cells slots frozen cs h.1)
fixed_cells slots frozen (cell.Ind n ∷ cs) h = absurd h.0

fixed_slices : (slots : Slots) → slots.freeze_entry ≡ true → (bs : Slices) (us : Terms) → StandForAll bs us → AllByRecursion IsOfEntry (terms.list us) → AllByRecursion (λ b. AreFixed slots b.now) bs
fixed_slices slots frozen [] us stand of = tt
fixed_slices slots frozen (b ∷ bs) terms.none stand of = absurd stand
fixed_slices slots frozen (b ∷ bs) (terms.more u us) stand of =
    (fixed_cells slots frozen b.now (subst (AreOf Entry) (sym stand.0.cells_are) of.0), fixed_slices slots frozen bs us stand.1 of.1)

pub fixed_targets : (slots : Slots) → slots.freeze_entry ≡ true → (bs : Slices) (u : Term) → StandForAll bs (arguments u) → AreOf Entry (cells_of u) → AllByRecursion (λ b. AreFixed slots b.now) bs
fixed_targets slots frozen bs u stand of = fixed_slices slots frozen bs (arguments u) stand (entry_arguments u of)

-- ---- items
record IsItem (us : Terms) (n : ℕ) (b : Bor (List Cell)) : Type 0 where
  term : Term
  is : slice_get (terms.list us) n ≡ Some term
  stands : StandsFor b.now term
  of_entry : IsOfEntry term

item_there : (bs : Slices) (us : Terms) (n : ℕ) (b : Bor (List Cell)) → StandForAll bs us → AllByRecursion IsOfEntry (terms.list us) → slice_get bs n ≡ Some b → IsItem us n b
item_there [] us n b h of e = cc
item_there (c ∷ bs) terms.none n b h of e = absurd h
item_there (c ∷ bs) (terms.more u us) zero b h of e =
    let same : c ≡ b = cc in
    record { term = u; is = refl; stands = subst (λ (k : Bor (List Cell)). StandsFor k.now u) same h.0; of_entry = of.0 }
item_there (c ∷ bs) (terms.more u us) (suc n) b h of e =
    let i = item_there bs us n b h.1 of.1 e in
    record { term = i.term; is = i.is; stands = i.stands; of_entry = i.of_entry }

record IsSlice (bs : Slices) (n : ℕ) (u : Term) : Type 0 where
  slice : Bor (List Cell)
  is : slice_get bs n ≡ Some slice
  stands : StandsFor slice.now u
  of_entry : IsOfEntry u

item_back : (bs : Slices) (us : Terms) (n : ℕ) (u : Term) → StandForAll bs us → AllByRecursion IsOfEntry (terms.list us) → slice_get (terms.list us) n ≡ Some u → IsSlice bs n u
item_back bs terms.none n u h of e = cc
item_back [] (terms.more v us) n u h of e = absurd h
item_back (b ∷ bs) (terms.more v us) zero u h of e =
    let same : v ≡ u = cc in
    record { slice = b; is = refl; stands = subst (StandsFor b.now) same h.0; of_entry = subst IsOfEntry same of.0 }
item_back (b ∷ bs) (terms.more v us) (suc n) u h of e =
    let i = item_back bs us n u h.1 of.1 e in
    record { slice = i.slice; is = i.is; stands = i.stands; of_entry = i.of_entry }

module _ (s : Substitution Symbol Variable) (stay : (n : ℕ) → image same_variable s (entry n) ≡ terms.var (entry n))
    (targets : Slices) (us : Terms) (stand : StandForAll targets us) (of : AllByRecursion IsOfEntry (terms.list us)) where
  abbrev TakesSlice : Bor (List Cell) → Bor (List Cell) → Type 0
  TakesSlice l k = Equalizes (image same_variable s) l.now k.now

  abbrev TakesTerm : Term → Term → Type 0
  TakesTerm t u = apply same_variable s t ≡ u

  taken_there : (literals : Slices) (ts : Terms) (ns : List ℕ) → StandForAll literals ts → AreImages TakesSlice targets literals ns → AreImages TakesTerm (terms.list us) (terms.list ts) ns
  taken_there [] terms.none [] h k = tt
  taken_there [] terms.none (n ∷ ns) h k = absurd k
  taken_there [] (terms.more t ts) ns h k = absurd h
  taken_there (l ∷ ls) terms.none ns h k = absurd h
  taken_there (l ∷ ls) (terms.more t ts) [] h k = absurd k
  taken_there (l ∷ ls) (terms.more t ts) (zero ∷ ns) h k = absurd (let e : None ≡ Some k.0.0 = k.0.1 in cc)
  taken_there (l ∷ ls) (terms.more t ts) (suc n ∷ ns) h k =
      let i = item_there targets us n k.0.0 stand of k.0.1 in
      ((i.term, i.is, k.0.2 t i.term h.0 i.stands ∙ stays (image same_variable s) i.term stay i.of_entry), taken_there ls ts ns h.1 k.1)

  taken_back : (literals : Slices) (ts : Terms) (ns : List ℕ) → StandForAll literals ts → AreImages TakesTerm (terms.list us) (terms.list ts) ns → AreImages TakesSlice targets literals ns
  taken_back [] terms.none [] h k = tt
  taken_back [] terms.none (n ∷ ns) h k = absurd k
  taken_back [] (terms.more t ts) ns h k = absurd h
  taken_back (l ∷ ls) terms.none ns h k = absurd h
  taken_back (l ∷ ls) (terms.more t ts) [] h k = absurd k
  taken_back (l ∷ ls) (terms.more t ts) (zero ∷ ns) h k = absurd (let e : None ≡ Some k.0.0 = k.0.1 in cc)
  taken_back (l ∷ ls) (terms.more t ts) (suc n ∷ ns) h k =
      let i = item_back targets us n k.0.0 stand of k.0.1 in (
        (
          i.slice,
          i.is,
          λ v w left right.
              ap (terms.substitute (image same_variable s)) (one_term l.now v t left h.0)
              ∙ k.0.2
              ∙ sym (stays (image same_variable s) k.0.0 stay i.of_entry)
              ∙ ap (terms.substitute (image same_variable s)) (one_term i.slice.now k.0.0 w i.stands right),
        ),
        taken_back ls ts ns h.1 k.1,
      )

-- ---- maps
module _ (slots : Slots) (free : slots.freeze_query ≡ false) (frozen : slots.freeze_entry ≡ true)
    (literals targets : Slices) (t u : Term) (stand : StandForAll literals (arguments t)) (stand_targets : StandForAll targets (arguments u)) (of : AreOf Entry (cells_of u)) where
  frozen_entries : (s : Substitution Symbol Variable) → ((n : ℕ) → image same_variable s (entry n) ≡ terms.var (entry n)) → (x : Variable) → is_frozen slots x ≡ true → image same_variable s x ≡ terms.var x
  frozen_entries s stay (query n) e = let bad : false ≡ true = sym free ∙ e in cc
  frozen_entries s stay (entry n) e = stay n
  frozen_entries s stay (ind n) e = cc

  map_there : (ns : List ℕ) → CanEnd slots targets [] literals ns → IsFlatMap (terms.list (arguments t)) (terms.list (arguments u)) ns
  map_there ns h =
      let stay : (n : ℕ) → image same_variable h.0 (entry n) ≡ terms.var (entry n) = λ n. h.1.frozen (entry n) frozen in
      (h.0, record { stay = stay; taken = taken_there h.0 stay targets (arguments u) stand_targets (entry_arguments u of) literals (arguments t) ns stand h.2 })

  map_back : (ns : List ℕ) → IsFlatMap (terms.list (arguments t)) (terms.list (arguments u)) ns → CanEnd slots targets [] literals ns
  map_back ns h = (
    h.0,
    record { frozen = frozen_entries h.0 h.1.stay; equal = tt },
    taken_back h.0 h.1.stay targets (arguments u) stand_targets (entry_arguments u of) literals (arguments t) ns stand h.1.taken,
  )

-- the least of these is the least of those, where they are the same
pub least_same : (P Q : List ℕ → Type 0) → ((ns : List ℕ) → P ns → Q ns) → ((ns : List ℕ) → Q ns → P ns) → (answer : Option (List ℕ)) → AnswersLeast P answer → AnswersLeast Q answer
least_same P Q there back None h = λ ns q. h ns (back ns q)
least_same P Q there back (Some ns) h = record { is_one = there ns h.is_one; no_later = λ ms q. h.no_later ms (back ms q) }

pub flat_answer : (slots : Slots) (literals targets : Slices) (c d : List Cell) (answer : Option (List ℕ))
    → slots.freeze_query ≡ false
    → slots.freeze_entry ≡ true
    → ((t : Term) → StandsFor c t → StandForAll literals (arguments t))
    → ((u : Term) → StandsFor d u → StandForAll targets (arguments u))
    → AreOf Entry d
    → AnswersSlices slots literals targets answer
    → AnswersFlat c d answer
flat_answer slots literals targets c d answer free frozen cut_c cut_d of h t u stands_t stands_u =
    let own : AreOf Entry (cells_of u) = subst (AreOf Entry) stands_u.cells_are of in
    least_same (CanEnd slots targets [] literals) (IsFlatMap (terms.list (arguments t)) (terms.list (arguments u)))
    (map_there slots free frozen literals targets t u (cut_c t stands_t) (cut_d u stands_u) own)
    (map_back slots free frozen literals targets t u (cut_c t stands_t) (cut_d u stands_u) own)
    answer h
