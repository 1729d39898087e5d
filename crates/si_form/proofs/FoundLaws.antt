-- The right side of a slot, from its class.
use Rattle.std.proofs.Common.{◌≡◌, ◌≢◌, ℕ, ◌+◌, ◌<◌, inl, inr, List, [], ◌∷◌, ◌++◌, length, length-append, get_or, suc, refl, sym, ◌∙◌, ap, subst, arith, Option, Some, None, Vec}
use Rattle.std.proofs.lemmas.Bool.Decides.{eqb_tells}
use Rattle.std.specs.Prelude.{slice_get}
use Rattle.std.specs.List.{AllByRecursion}
use Rattle.std.proofs.lemmas.Option.{slice_get_within, same_Some, get_or_from_slice_get}
use Rattle.si_defs.specs.Terms as terms
use Rattle.si_defs.proofs.ListLaws.{all_at, all_from}
use Rattle.si_flat.specs.declared.Cell.{Cell}
use Rattle.si_flat.specs.Cells.{Variable, Term, Terms, variable_cell, IsSound, AreSound, StandsFor}
use Rattle.si_unify.specs.declared.slots.Slots.{Slots}
use Rattle.si_unify.specs.Solving.{Pairs, slot_count, variable_of}
use Rattle.si_form.specs.declared.classes.Node.{Node}
use Rattle.si_form.specs.Classes.{HasClasses}
use Rattle.si_form.specs.Folding.{leader, variable_or, folded, folded_all, AreClasses, AreLeaders, HasTerms, Folded, IsFolding, CanFold, HasFolded}
use Rattle.si_form.specs.Unifying.{IsApplication, StaysFree, IsToBind, IsRightSide, IsGeneral, AreFound, IsBoundTo, HasRightSide, HaveRightSides}
use Rattle.si_form.specs.Ordering.{list_of}
use Rattle.si_form.proofs.UsesLaws.{get_or_front, get_or_last}
use Rattle.si_form.proofs.RightSides.{led, none_led, no_leader, none_longer, right_of_follower, right_of_leader}

-- ---- folded terms are sound
count_folded : (slots : Slots) (f : Variable → Term) (ts : Terms) → terms.count (folded_all slots f ts) ≡ terms.count ts
count_folded slots f terms.none = refl
count_folded slots f (terms.more t ts) = ap (λ n. 1 + n) (count_folded slots f ts)

part_sound : (slots : Slots) (f : Variable → Term) (t : Term) (o : Option ℕ) → IsSound (folded slots f t) → IsSound (variable_or slots f o (folded slots f t))
part_sound slots f t None h = h
part_sound slots f t (Some w) h = tt

mutual
  pub folded_sound : (slots : Slots) (f : Variable → Term) (t : Term) → IsSound t → IsSound (folded slots f t)
  folded_sound slots f (terms.var x) h = tt
  folded_sound slots f (terms.app s ts) h = (count_folded slots f ts ∙ h.0, all_folded_sound slots f ts h.1)

  pub all_folded_sound : (slots : Slots) (f : Variable → Term) (ts : Terms) → AreSound ts → AreSound (folded_all slots f ts)
  all_folded_sound slots f terms.none h = tt
  all_folded_sound slots f (terms.more t ts) h = (part_sound slots f t (leader slots f t) (folded_sound slots f t h.0), all_folded_sound slots f ts h.1)

-- ---- what is to be bound
module _ (slots : Slots) (f : Variable → Term) where
  not_application : (k : ℕ) (y : Variable) → f (variable_of slots k) ≡ terms.var y → IsApplication (f (variable_of slots k)) → ⊥
  not_application k y e a = let bad : terms.var y ≡ terms.app a.0 a.1 = sym e ∙ a.2 in cc

  -- a leader whose image is a variable isn't to be bound
  pub none_to_bind : (k : ℕ) (y : Variable) → leader slots f (f (variable_of slots k)) ≡ Some k → f (variable_of slots k) ≡ terms.var y → IsToBind slots f k → ⊥
  none_to_bind k y leads e b =
      elim b.1 [
        | inl follows ↦ follows.2 (same_Some follows.0 k (sym follows.1 ∙ leads))
        | inr own ↦ not_application k y e own.1
      ]

-- ---- a slot and its class
-- the class of the slot stands for its image, and has its leader
pub record IsClassOf (slots : Slots) (f : Variable → Term) (folding : Folded) (slot class : ℕ) : Type 0 where
  pub known : List Term
  pub are : AreClasses slots f folding.nodes folding.classes known
  pub led : AreLeaders slots f (slot_count slots) known folding.leaders
  pub image_is : slice_get known class ≡ Some (f (variable_of slots slot))
  pub leader_is : slice_get folding.leaders class ≡ Some (leader slots f (f (variable_of slots slot)))

module _ (slots : Slots) (pairs : Pairs) (folding : Folded) (folds : IsFolding folding) (found : AreFound slots pairs folding) (slot class : ℕ) (inside : slot < slot_count slots) (class_is : slice_get folding.classes slot ≡ Some class) where
  class_of : (f : Variable → Term) → IsGeneral slots pairs f → IsClassOf slots f folding slot class
  class_of f general =
      let knows = found.classes_are.knows f general.solves general.leaves in
      let are : AreClasses slots f folding.nodes folding.classes knows.0 = record { are = knows.1; long = found.classes_are.long; knows = λ j less. knows.2 j less tt } in
      let own = knows.2 slot inside tt in
      let image : slice_get knows.0 class ≡ Some (f (variable_of slots slot)) =
      ap (slice_get knows.0) (same_Some class own.number (sym class_is ∙ own.class_is)) ∙ own.image_is in
      let leads : AreLeaders slots f (slot_count slots) knows.0 folding.leaders =
      subst (λ k. AreLeaders slots f k knows.0 folding.leaders) found.classes_are.long (folds.leads slots f knows.0 are) in
      record {
        known = knows.0;
        are = are;
        led = leads;
        image_is = image;
        leader_is = leads class (f (variable_of slots slot)) image;
      }

  pub class_inside : class < length folding.nodes
  class_inside =
      let c = class_of found.some.0 found.some.1 in
      omega (arith, folds.long, slice_get_within folding.leaders class (leader slots found.some.0 (found.some.0 (variable_of slots slot))) c.leader_is)

  leader_at : (f : Variable → Term) → IsGeneral slots pairs f → (o : Option ℕ) → o ≡ get_or folding.leaders class None → leader slots f (f (variable_of slots slot)) ≡ o
  leader_at f general o is = sym (is ∙ get_or_from_slice_get folding.leaders class (leader slots f (f (variable_of slots slot))) None (class_of f general).leader_is)

  pub leader_inside : (w : ℕ) → Some w ≡ get_or folding.leaders class None → w < slot_count slots
  leader_inside w is =
      (led slots found.some.0 (slot_count slots) w (found.some.0 (variable_of slots slot)) (leader_at found.some.0 found.some.1 (Some w) is)).below

  pub has_leader : None ≡ get_or folding.leaders class None → ⊥
  has_leader is =
      none_led slots found.some.0 (slot_count slots) (found.some.0 (variable_of slots slot)) (leader_at found.some.0 found.some.1 None is) slot inside refl

  pub follower_side : (w : ℕ) (cells : List Cell) → Some w ≡ get_or folding.leaders class None → w ≢ slot → cells ≡ variable_cell (variable_of slots w) ∷ [] → HasRightSide slots pairs slot (Some cells)
  follower_side w cells is apart cells_are f general =
      let leads = leader_at f general (Some w) is in (
        (inside, inl (w, leads, apart)),
        subst (StandsFor cells) (sym (right_of_follower slots f slot w leads apart)) (record { cells_are = cells_are; sound = tt }),
      )

  pub unbound_side : Some slot ≡ get_or folding.leaders class None → IsBoundTo slots pairs slot None → HasRightSide slots pairs slot None
  unbound_side is none f general = let y = none f general in none_to_bind slots f slot y.0 (leader_at f general (Some slot) is) y.1

  module _ (size : ℕ) (bound : IsBoundTo slots pairs slot (Some size)) where
    can_fold : (f : Variable → Term) (general : IsGeneral slots pairs f) → CanFold slots folding class f (class_of f general).known (f (variable_of slots slot))
    can_fold f general =
        let c = class_of f general in
        let app = bound.1 f general in
        let least = none_longer slots f app.arguments app.known in
        let size_is : terms.size (folded slots f (f (variable_of slots slot))) ≡ 1 + terms.sizes (folded_all slots f (terms.substitute_all f app.arguments)) =
        ap (λ t. terms.size (folded slots f t)) app.image_is in
        record {
          are = c.are.are;
          led = c.led;
          class_is = c.image_is;
          symbol = app.symbol;
          arguments = terms.substitute_all f app.arguments;
          term_is = app.image_is;
          leads =
              all_from (λ y. leader slots f (terms.var y) ≡ None → ⊥) (terms.variables (f (variable_of slots slot)))
              (λ y a e. no_leader slots f y (all_at (StaysFree slots f) (terms.variables (f (variable_of slots slot))) y (general.stays slot inside) a) e);
          fits = omega (arith, size_is, least, app.size_is, bound.0);
        }

    pub some_fold : (f : Variable → Term) × (known : List Term) × (t : Term) × CanFold slots folding class f known t
    some_fold = (
      found.some.0,
      (class_of found.some.0 found.some.1).known,
      found.some.0 (variable_of slots slot),
      can_fold found.some.0 found.some.1,
    )

    pub leader_side : (cells : List Cell) → Some slot ≡ get_or folding.leaders class None → HasFolded slots folding class cells → HasRightSide slots pairs slot (Some cells)
    leader_side cells is folded_is f general =
        let leads = leader_at f general (Some slot) is in
        let app = bound.1 f general in (
          (inside, inr (leads, (app.symbol, terms.substitute_all f app.arguments, app.image_is))),
          subst (StandsFor cells) (sym (right_of_leader slots f slot leads)) (record {
            cells_are = folded_is f (class_of f general).known (f (variable_of slots slot)) (can_fold f general);
            sound = folded_sound slots f (f (variable_of slots slot)) (general.sound slot inside);
          }),
        )

-- ---- classes and what is found
module _ (slots : Slots) (pairs : Pairs) (nodes : List Node) (classes : List ℕ) (f : Variable → Term) (general : IsGeneral slots pairs f) (h : HasClasses slots pairs nodes classes) where
  numbers_inside : (xs : List ℕ) (n : ℕ) → ((i : ℕ) → i < length xs → (m : ℕ) × (slice_get xs i ≡ Some m) × (m < n)) → AllByRecursion (λ m. m < n) xs
  numbers_inside [] n give = tt
  numbers_inside (x ∷ xs) n give =
      let first = give 0 (omega arith) in
      (subst (λ m. m < n) (sym (same_Some x first.0 first.1)) first.2, numbers_inside xs n (λ i less. give (suc i) (omega (arith, less))))

  pub classes_inside : AllByRecursion (λ m. m < length nodes) classes
  classes_inside =
      let knows = h.knows f general.solves general.leaves in
      numbers_inside classes (length nodes)
      (λ i less.
      let own = knows.2 i (omega (arith, less, h.long)) tt in (
        own.number,
        own.class_is,
        omega (arith, slice_get_within knows.0 own.number (f (variable_of slots i)) own.image_is, knows.1.long),
      ))

  pub has_terms : HasTerms nodes
  has_terms = let knows = h.knows f general.solves general.leaves in (slots, knows.0, knows.1)

-- ---- all right sides
pub sides_more : {A : Type 0} (slots : Slots) (pairs : Pairs) (rights new : List (Option (Vec Cell A))) (right : Option (Vec Cell A)) (k : ℕ) → length rights ≡ k → HaveRightSides slots pairs rights → new ≡ rights ++ right ∷ [] → HasRightSide slots pairs k (list_of right) → HaveRightSides slots pairs new
sides_more slots pairs rights new right k long h is side = subst (HaveRightSides slots pairs) (sym is) both
  where
    both : HaveRightSides slots pairs (rights ++ right ∷ [])
    both f general j less =
        elim (eqb_tells j k) [
          | inl e ↦
              subst (λ o. IsRightSide slots f j (list_of o)) (sym (ap (λ n. get_or (rights ++ right ∷ []) n None) (e.1 ∙ sym long) ∙ get_or_last rights right None))
              (subst (λ i. IsRightSide slots f i (list_of right)) (sym e.1) (side f general))
          | inr e ↦
              let before : j < length rights = omega (arith, e.1, less, long, length-append rights (right ∷ [])) in
              subst (λ o. IsRightSide slots f j (list_of o)) (sym (get_or_front rights (right ∷ []) j None before)) (h f general j before)
        ]
