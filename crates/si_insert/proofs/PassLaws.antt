-- The walk over the bindings of a node.
use Rattle.std.proofs.Common.{◌≡◌, ℕ, ◌<◌, inl, inr, Bool, true, false, cond, List, [], ◌∷◌, ◌++◌, length, refl, sym, ◌∙◌, ap, subst, append_assoc, append-nil}
use Rattle.std.specs.List.{AllByRecursion}
use Rattle.std.proofs.lemmas.List.{map-append}
use Rattle.si_defs.specs.Substitutions.{IsAmong, AreDistinct}
use Rattle.si_defs.proofs.ListLaws.{all_append, all_at, among_front}
use Rattle.si_flat.specs.declared.Cell.{Cell}
use Rattle.si_flat.specs.Cells.{Term, StandsFor}
use Rattle.si_flat.specs.Rows.{CellPair, left_sides}
use Rattle.si_flat.proofs.RowLaws.{distinct_parts}
use Rattle.si_legal.specs.Bindings.{Binding, indicators, right_indicators, applied, StandForBindings}
use Rattle.si_changes.proofs.HeadLaws.{image_bound}
use Rattle.si_changes.proofs.Borrowed.{bound_left}
use Rattle.si_insert.proofs.OpenPairs.{distinct_lefts}
use Rattle.si_changes.proofs.ComposeLaws.{same_applied, bound_front, bound_back, right_among}
use Rattle.si_insert.specs.declared.open.Opened.{Opened}
use Rattle.si_insert.specs.Opened.{numbers, term_at, AreWithin, BeginsAtPlace, open_pairs}
use Rattle.si_insert.specs.Fitting.{all_pairs, OpensFor, OpensFitting, MayFit, FitsThere, FitsNowhere}
use Rattle.si_insert.specs.Passing.{MakesAll, FitAll, MayPass}

-- ---- what was opened
pub stand_lefts : (cs : List CellPair) (bs : List Binding) → StandForBindings cs bs → left_sides cs ≡ left_sides bs
stand_lefts [] [] h = refl
stand_lefts [] (b ∷ bs) h = absurd h
stand_lefts (c ∷ cs) [] h = absurd h
stand_lefts (c ∷ cs) (b ∷ bs) h = λ i. h.0 i ∷ stand_lefts cs bs h.2 i

pub stand_append : (cs ds : List CellPair) (bs es : List Binding) → StandForBindings cs bs → StandForBindings ds es → StandForBindings (cs ++ ds) (bs ++ es)
stand_append [] ds [] es h k = k
stand_append [] ds (b ∷ bs) es h k = absurd h
stand_append (c ∷ cs) ds [] es h k = absurd h
stand_append (c ∷ cs) ds (b ∷ bs) es h k = (h.0, h.1, stand_append cs ds bs es h.2 k)

all_lefts : (cells : List Cell) (all : List Opened) → left_sides (all_pairs cells all) ≡ numbers all
all_lefts cells [] = refl
all_lefts cells (o ∷ os) = ap (λ l. o.indicator ∷ l) (all_lefts cells os)

pub numbers_opened : (cells : List Cell) (old new : List Opened) (bs : List Binding) → OpensFor cells old new bs → numbers new ≡ numbers old ++ left_sides bs
numbers_opened cells old new bs o =
    ap numbers o.grows
    ∙ map-append (λ p. p.indicator) old o.others
    ∙ ap (λ l. numbers old ++ l) (sym (all_lefts cells o.others) ∙ stand_lefts (all_pairs cells o.others) bs o.stand)

pub opens_more : (cells : List Cell) (old now new : List Opened) (bs cs : List Binding) → OpensFor cells old now bs → OpensFor cells now new cs → OpensFor cells old new (bs ++ cs)
opens_more cells old now new bs cs o p = record {
  others = o.others ++ p.others;
  grows = p.grows ∙ ap (λ l. l ++ p.others) o.grows ∙ append_assoc old o.others p.others;
  stand = subst (λ l. StandForBindings l (bs ++ cs)) (sym (map-append (λ q. (q.indicator, term_at cells q.at)) o.others p.others)) (stand_append (all_pairs cells o.others) (all_pairs cells p.others) bs cs o.stand p.stand);
  free = all_append (λ q. q.bound ≡ false) o.others p.others o.free p.free;
  within = all_append (λ q. q.at < length cells) o.others p.others o.within p.within;
}

-- ---- what stands at an indicator that is open
-- those that are open are among those that were opened
pub open_among : (cells : List Cell) (all : List Opened) (there : List Binding) (n : ℕ) (u : Term) → StandForBindings (open_pairs cells all) there → IsAmong there (n, u) → (o : Opened) × IsAmong all o × (o.indicator ≡ n) × StandsFor (term_at cells o.at) u
open_among cells [] [] n u stand among = absurd among
open_among cells [] (b ∷ bs) n u stand among = absurd stand
open_among cells (o ∷ os) there n u stand among = by o.bound there (λ bs stand' among'. open_among cells os bs n u stand' among') stand among where
  by : (b : Bool) (bs : List Binding) → ((cs : List Binding) → StandForBindings (open_pairs cells os) cs → IsAmong cs (n, u) → (p : Opened) × IsAmong os p × (p.indicator ≡ n) × StandsFor (term_at cells p.at) u) → StandForBindings (cond b (open_pairs cells os) ((o.indicator, term_at cells o.at) ∷ open_pairs cells os)) bs → IsAmong bs (n, u) → (p : Opened) × IsAmong (o ∷ os) p × (p.indicator ≡ n) × StandsFor (term_at cells p.at) u
  by true bs later stand among = let f = later bs stand among in (f.0, inr f.1, f.2, f.3)
  by false [] later stand among = absurd stand
  by false (c ∷ cs) later stand (inl e) = (o, inl refl, stand.0 ∙ ap (λ b. b.0) e, subst (StandsFor (term_at cells o.at)) (ap (λ b. b.1) e) stand.1)
  by false (c ∷ cs) later stand (inr among) = let f = later cs stand.2 among in (f.0, inr f.1, f.2, f.3)

pub number_among : (all : List Opened) (o : Opened) → IsAmong all o → IsAmong (numbers all) o.indicator
number_among (q ∷ qs) o (inl e) = inl (ap (λ r. r.indicator) e)
number_among (q ∷ qs) o (inr a) = inr (number_among qs o a)
number_among [] o a = absurd a

pub one_opened : (all : List Opened) (o p : Opened) → AreDistinct (numbers all) → IsAmong all o → IsAmong all p → o.indicator ≡ p.indicator → o ≡ p
one_opened [] o p distinct a b e = absurd a
one_opened (q ∷ qs) o p distinct (inl a) (inl b) e = sym a ∙ b
one_opened (q ∷ qs) o p distinct (inl a) (inr b) e = absurd (distinct.0 (subst (IsAmong (numbers qs)) (sym e ∙ ap (λ r. r.indicator) (sym a)) (number_among qs p b)))
one_opened (q ∷ qs) o p distinct (inr a) (inl b) e = absurd (distinct.0 (subst (IsAmong (numbers qs)) (e ∙ ap (λ r. r.indicator) (sym b)) (number_among qs o a)))
one_opened (q ∷ qs) o p distinct (inr a) (inr b) e = one_opened qs o p distinct.1 a b e

-- ---- what is left of the walk
pub record LeftToPass (cells : List Cell) (old now : List Opened) (there bs : List Binding) (pairs : List CellPair) : Type 0 where
  pub rest : List Binding
  pub found : List Binding
  pub stand : StandForBindings pairs rest
  pub opens : OpensFor cells old now found
  pub lefts : AllByRecursion (IsAmong (left_sides there)) (left_sides rest)
  pub distinct : AreDistinct (numbers now ++ right_indicators rest)
  pub gives : (more : List Binding) → FitAll more there rest → FitAll (found ++ more) there bs
  pub given : (fs : List Binding) → MakesAll fs there bs → MakesAll fs there rest

pub start_pass : (cells : List Cell) (old : List Opened) (node : List CellPair) (there bs : List Binding) → MayPass cells old node there bs → LeftToPass cells old old there bs node
start_pass cells old node there bs may = record {
  rest = bs;
  found = [];
  stand = may.node_stand;
  opens = record { others = []; grows = sym (append-nil old); stand = tt; free = tt; within = tt };
  lefts = may.lefts;
  distinct = may.distinct;
  gives = λ more fit. fit;
  given = λ fs makes. makes;
}

pub end_pass : (cells : List Cell) (old now : List Opened) (there bs : List Binding) → LeftToPass cells old now there bs [] → (fs : List Binding) × FitAll fs there bs × OpensFor cells old now fs
end_pass cells old now there bs l = by l.rest l.stand l.gives where
  by : (rest : List Binding) → StandForBindings [] rest → ((more : List Binding) → FitAll more there rest → FitAll (l.found ++ more) there bs) → (fs : List Binding) × FitAll fs there bs × OpensFor cells old now fs
  by [] stand gives = (l.found, subst (λ fs. FitAll fs there bs) (append-nil l.found) (gives [] (record { lefts = refl; each = λ n r u among also. absurd among })), l.opens)
  by (b ∷ rest) stand gives = absurd stand

-- ---- one binding of the node
-- it is the first of those left
pub record FirstOf (cells : List Cell) (old now : List Opened) (there bs : List Binding) (p : CellPair) (pairs : List CellPair) : Type 0 where
  pub right : Term
  pub rest : List Binding
  pub found : List Binding
  pub part : Term
  pub stands : StandsFor p.1 right
  pub stand : StandForBindings pairs rest
  pub opens : OpensFor cells old now found
  pub is_there : IsAmong there (p.0, part)
  pub only : (u : Term) → IsAmong there (p.0, u) → part ≡ u
  pub lefts : AllByRecursion (IsAmong (left_sides there)) (left_sides rest)
  pub distinct : AreDistinct (numbers now ++ (indicators right ++ right_indicators rest))
  pub gives : (more : List Binding) → FitAll more there ((p.0, right) ∷ rest) → FitAll (found ++ more) there bs
  pub given : (fs : List Binding) → MakesAll fs there bs → MakesAll fs there ((p.0, right) ∷ rest)

distinct_there : (cells : List Cell) (old : List Opened) (node : List CellPair) (there bs : List Binding) → MayPass cells old node there bs → AreDistinct (left_sides there)
distinct_there cells old node there bs may =
    let front = (distinct_parts (numbers old) (right_indicators bs) may.distinct).0 in
    subst AreDistinct (stand_lefts (open_pairs cells old) there may.stand) (distinct_lefts cells old front)

pub first_of : (cells : List Cell) (old now : List Opened) (node : List CellPair) (there bs : List Binding) (p : CellPair) (pairs : List CellPair) → MayPass cells old node there bs → LeftToPass cells old now there bs (p ∷ pairs) → FirstOf cells old now there bs p pairs
first_of cells old now node there bs p pairs may l = by l.rest l.stand l.lefts l.distinct l.gives l.given where
  by : (rest : List Binding) → StandForBindings (p ∷ pairs) rest → AllByRecursion (IsAmong (left_sides there)) (left_sides rest) → AreDistinct (numbers now ++ right_indicators rest) → ((more : List Binding) → FitAll more there rest → FitAll (l.found ++ more) there bs) → ((fs : List Binding) → MakesAll fs there bs → MakesAll fs there rest) → FirstOf cells old now there bs p pairs
  by [] stand lefts distinct gives given = absurd stand
  by (b ∷ rest) stand lefts distinct gives given =
      let same : b ≡ (p.0, b.1) = λ i. (sym stand.0 i, b.1) in
      let part = bound_left there p.0 (subst (IsAmong (left_sides there)) (sym stand.0) lefts.0) in
      record {
        right = b.1;
        rest = rest;
        found = l.found;
        part = part.0;
        stands = stand.1;
        stand = stand.2;
        opens = l.opens;
        is_there = part.1;
        only = λ u among. sym (image_bound there p.0 part.0 (distinct_there cells old node there bs may) part.1) ∙ image_bound there p.0 u (distinct_there cells old node there bs may) among;
        lefts = lefts.1;
        distinct = distinct;
        gives = subst (λ c. (more : List Binding) → FitAll more there (c ∷ rest) → FitAll (l.found ++ more) there bs) same gives;
        given = subst (λ c. (fs : List Binding) → MakesAll fs there bs → MakesAll fs there (c ∷ rest)) same given;
      }

-- the place that is found for its left side is that of its part
pub part_at : (cells : List Cell) (old now : List Opened) (node : List CellPair) (there bs : List Binding) (p : CellPair) (pairs : List CellPair) (at : ℕ) → MayPass cells old node there bs → (f : FirstOf cells old now there bs p pairs) → BeginsAtPlace now p.0 at → StandsFor (term_at cells at) f.part
part_at cells old now node there bs p pairs at may f place =
    let o = open_among cells old there p.0 f.part may.stand f.is_there in
    let here : IsAmong now o.0 = subst (λ l. IsAmong l o.0) (sym f.opens.grows) (among_front old f.opens.others o.0 o.1) in
    let distinct = (distinct_parts (numbers now) (indicators f.right ++ right_indicators f.rest) f.distinct).0 in
    let same : o.0 ≡ place.0 = one_opened now o.0 place.0 distinct here place.1 (o.2 ∙ sym place.2) in
    subst (λ n. StandsFor (term_at cells n) f.part) (ap (λ q. q.at) same ∙ place.3) o.3

pub place_within : (cells : List Cell) (old now : List Opened) (node : List CellPair) (there bs : List Binding) (n at : ℕ) (found : List Binding) → MayPass cells old node there bs → OpensFor cells old now found → BeginsAtPlace now n at → at < length cells
place_within cells old now node there bs n at found may opens place =
    let all : AreWithin cells now = subst (AreWithin cells) (sym opens.grows) (all_append (λ q. q.at < length cells) old opens.others may.within opens.within) in
    subst (λ k. k < length cells) place.3 (all_at (λ q. q.at < length cells) now place.0 all place.1)

pub is_opened : (cells : List Cell) (old now : List Opened) (node : List CellPair) (there bs : List Binding) (p : CellPair) (pairs : List CellPair) → MayPass cells old node there bs → FirstOf cells old now there bs p pairs → IsAmong (numbers now) p.0
is_opened cells old now node there bs p pairs may f =
    let o = open_among cells old there p.0 f.part may.stand f.is_there in
    let here : IsAmong now o.0 = subst (λ l. IsAmong l o.0) (sym f.opens.grows) (among_front old f.opens.others o.0 o.1) in
    subst (IsAmong (numbers now)) o.2 (number_among now o.0 here)

pub may_fit : (cells : List Cell) (old now : List Opened) (there bs : List Binding) (p : CellPair) (pairs : List CellPair) → FirstOf cells old now there bs p pairs → MayFit now p.1
may_fit cells old now there bs p pairs f = record {
  term = f.right;
  stands = f.stands;
  distinct = (distinct_parts (numbers now ++ indicators f.right) (right_indicators f.rest) (subst AreDistinct (sym (append_assoc (numbers now) (indicators f.right) (right_indicators f.rest))) f.distinct)).0;
}

pub passed_one : (cells : List Cell) (old now new : List Opened) (node : List CellPair) (there bs : List Binding) (p : CellPair) (pairs : List CellPair) (at : ℕ) → MayPass cells old node there bs → (f : FirstOf cells old now there bs p pairs) → BeginsAtPlace now p.0 at → FitsThere now p.1 cells at new → LeftToPass cells old new there bs pairs
passed_one cells old now new node there bs p pairs at may f place fits = by (fits f.right f.part f.stands (part_at cells old now node there bs p pairs at may f place)) where
  apart : AreDistinct (indicators f.right ++ right_indicators f.rest)
  apart = (distinct_parts (numbers now) (indicators f.right ++ right_indicators f.rest) f.distinct).1

  by : OpensFitting cells now new f.right f.part → LeftToPass cells old new there bs pairs
  by o = record {
    rest = f.rest;
    found = f.found ++ o.bindings;
    stand = f.stand;
    opens = opens_more cells old now new f.found o.bindings f.opens o.opens;
    lefts = f.lefts;
    distinct = subst AreDistinct (sym (ap (λ l. l ++ right_indicators f.rest) (numbers_opened cells now new o.bindings o.opens ∙ ap (λ l. numbers now ++ l) o.fits.lefts) ∙ append_assoc (numbers now) (indicators f.right) (right_indicators f.rest))) f.distinct;
    gives = λ more fit. subst (λ fs. FitAll fs there bs) (sym (append_assoc f.found o.bindings more)) (f.gives (o.bindings ++ more) (both more fit));
    given = λ fs makes. λ n r u among also. f.given fs makes n r u (inr among) also;
  } where
    front : (more : List Binding) → applied (o.bindings ++ more) f.right ≡ f.part
    front more = same_applied (o.bindings ++ more) o.bindings f.right (λ n among. bound_front o.bindings more n (subst (λ l. IsAmong l n) (sym o.fits.lefts) among)) ∙ o.fits.gives

    back : (more : List Binding) (n : ℕ) (r : Term) → IsAmong f.rest (n, r) → applied (o.bindings ++ more) r ≡ applied more r
    back more n r among = same_applied (o.bindings ++ more) more r (λ k inside. bound_back o.bindings more k (λ left. (distinct_parts (indicators f.right) (right_indicators f.rest) apart).2 k (subst (λ l. IsAmong l k) o.fits.lefts left) (right_among f.rest (n, r) k among inside)))

    both : (more : List Binding) → FitAll more there f.rest → FitAll (o.bindings ++ more) there ((p.0, f.right) ∷ f.rest)
    both more fit = record {
      lefts = map-append (λ b. b.0) o.bindings more ∙ (λ i. o.fits.lefts i ++ fit.lefts i);
      each = λ n r u among also. elim among as (λ _. applied (o.bindings ++ more) r ≡ u) [
        | inl e ↦ ap (applied (o.bindings ++ more)) (sym (ap (λ b. b.1) e)) ∙ front more ∙ f.only u (subst (λ k. IsAmong there (k, u)) (sym (ap (λ b. b.0) e)) also)
        | inr later ↦ back more n r later ∙ fit.each n r u later also
      ];
    }

pub never_one : (cells : List Cell) (old now : List Opened) (node : List CellPair) (there bs : List Binding) (p : CellPair) (pairs : List CellPair) (at : ℕ) → MayPass cells old node there bs → (f : FirstOf cells old now there bs p pairs) → BeginsAtPlace now p.0 at → FitsNowhere p.1 cells at → (fs : List Binding) → MakesAll fs there bs → ⊥
never_one cells old now node there bs p pairs at may f place nowhere fs makes =
    nowhere f.right f.part fs f.stands (part_at cells old now node there bs p pairs at may f place) (f.given fs makes p.0 f.right f.part (inl refl) f.is_there)
