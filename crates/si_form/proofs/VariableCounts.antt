-- How many variables stand among the first cells of a term.
use Rattle.std.proofs.Common.{◌≡◌, ◌≢◌, ℕ, ◌+◌, ◌<◌, ◌≤◌, inl, inr, List, [], ◌∷◌, ◌++◌, length, drop, get_or, suc, refl, sym, ◌∙◌, ap, subst, arith, append-nil, Option, Some, None}
use Rattle.std.specs.List.{AllByRecursion}
use Rattle.si_defs.specs.Substitutions.{IsAmong}
use Rattle.si_defs.specs.Terms as terms
use Rattle.si_flat.specs.declared.Cell.{Cell}
use Rattle.si_flat.specs.declared.Cell.TheVariants as cell
use Rattle.si_flat.specs.Cells.{Variable, query, entry, ind, same_variable, Term, Terms, variable_cell, cells_of, cells_of_all, StandsFor, IsWhole, span}
use Rattle.si_flat.proofs.Subterms.{length-cells_of, span-first}
use Rattle.si_flat.specs.declared.Owner.{Owner}
use Rattle.si_flat.specs.declared.Owner.TheVariants.{Query, Entry}
use Rattle.si_flat.specs.Flattening.{owners_variable}
use Rattle.si_unify.specs.declared.slots.Slots.{Slots}
use Rattle.si_unify.specs.Solving.{CellIsInRange, AreInRange}
use Rattle.si_form.specs.Answers.{owners_variables, AreNumbered}
use Rattle.si_form.specs.Matching.{variable_number}
use Rattle.si_form.specs.Unifying.{HasVariables}
use Rattle.std.proofs.Math.ListN.{drop_of_length-le}
use Rattle.std.proofs.Math.Seq.{drop-cons}
use Rattle.si_defs.proofs.ListLaws.{all_at}
use Rattle.si_form.proofs.Agreeing.{drop_none, no_number}
use Rattle.si_form.proofs.Counting.{NumberedTo, numbered_to}
use Rattle.si_form.proofs.VariableLaws.{number_of}

-- ---- the variables among cells
abbrev pub variables_among : List Cell → List Variable
variables_among [] = []
variables_among (cell.App s a n ∷ cells) = variables_among cells
variables_among (cell.Query n ∷ cells) = query n ∷ variables_among cells
variables_among (cell.Entry n ∷ cells) = entry n ∷ variables_among cells
variables_among (cell.Ind n ∷ cells) = ind n ∷ variables_among cells

among_parts : (xs ys : List Cell) → variables_among (xs ++ ys) ≡ variables_among xs ++ variables_among ys
among_parts [] ys = refl
among_parts (cell.App s a n ∷ xs) ys = among_parts xs ys
among_parts (cell.Query n ∷ xs) ys = ap (λ l. query n ∷ l) (among_parts xs ys)
among_parts (cell.Entry n ∷ xs) ys = ap (λ l. entry n ∷ l) (among_parts xs ys)
among_parts (cell.Ind n ∷ xs) ys = ap (λ l. ind n ∷ l) (among_parts xs ys)

among_one : (x : Variable) → variables_among (variable_cell x ∷ []) ≡ x ∷ []
among_one (query n) = refl
among_one (entry n) = refl
among_one (ind n) = refl

mutual
  pub among_cells : (t : Term) → variables_among (cells_of t) ≡ terms.variables t
  among_cells (terms.var x) = among_one x
  among_cells (terms.app s ts) = among_all ts

  pub among_all : (ts : Terms) → variables_among (cells_of_all ts) ≡ terms.variables_of_all ts
  among_all terms.none = refl
  among_all (terms.more t ts) =
      among_parts (cells_of t) (cells_of_all ts) ∙ ap (λ l. l ++ variables_among (cells_of_all ts)) (among_cells t) ∙ ap (λ l. terms.variables t ++ l) (among_all ts)

-- ---- counting
-- so many variables have been met before the place
abbrev pub IsCounting : Owner → List Cell → ℕ → ℕ → Type 0
IsCounting owner cells i n = (n ≤ i) × ((t : Term) (m : ℕ) → StandsFor cells t → terms.firsts same_variable (terms.variables t) ≡ owners_variables owner 0 m → NumberedTo owner n (variables_among (drop i cells)) m)

pub counting_begins : (owner : Owner) (cells : List Cell) → IsCounting owner cells 0 0
counting_begins owner cells = (
  omega arith,
  λ t m stands firsts.
      subst (λ l. NumberedTo owner 0 l m) (sym (ap variables_among (drop_none cells ∙ stands.cells_are) ∙ among_cells t)) (numbered_to owner m (terms.variables t) firsts),
)

-- one variable more, by its number
abbrev CountsOn : Owner → ℕ → ℕ → List Variable → ℕ → Type 0
CountsOn owner n m xs k = ((k ≢ n) → NumberedTo owner n xs m) × ((k ≡ n) → NumberedTo owner (suc n) xs m)

next_met : (owner : Owner) (n m : ℕ) (x : Variable) (xs : List Variable) → NumberedTo owner n (x ∷ xs) m → (k : ℕ) × (variable_number owner (variable_cell x) ≡ Some k) × CountsOn owner n m xs k
next_met owner n m x xs h =
    elim h [
      | inl old ↦ (
        old.0,
        ap (λ y. variable_number owner (variable_cell y)) old.2 ∙ number_of owner old.0,
        ((λ apart. old.3), (λ same. absurd (omega (arith, old.1, same)))),
      )
      | inr new ↦ (
        n,
        ap (λ y. variable_number owner (variable_cell y)) new.0 ∙ number_of owner n,
        ((λ apart. absurd (apart refl)), (λ same. new.1)),
      )
    ]

-- what a cell tells of the variables after it
abbrev CellCounts : Owner → ℕ → ℕ → List Variable → Option ℕ → Type 0
CellCounts owner n m xs None = NumberedTo owner n xs m
CellCounts owner n m xs (Some k) = CountsOn owner n m xs k

one_more : (owner : Owner) (n m : ℕ) (x : Variable) (xs : List Variable) → NumberedTo owner n (x ∷ xs) m → CellCounts owner n m xs (variable_number owner (variable_cell x))
one_more owner n m x xs h = let r = next_met owner n m x xs h in subst (CellCounts owner n m xs) (sym r.1) r.2

cell_counts : (owner : Owner) (n m : ℕ) (c : Cell) (cells : List Cell) → NumberedTo owner n (variables_among (c ∷ cells)) m → CellCounts owner n m (variables_among cells) (variable_number owner c)
cell_counts owner n m (cell.App s a k) cells h = subst (CellCounts owner n m (variables_among cells)) (sym (no_number owner s a k)) h
cell_counts owner n m (cell.Query k) cells h = one_more owner n m (query k) (variables_among cells) h
cell_counts owner n m (cell.Entry k) cells h = one_more owner n m (entry k) (variables_among cells) h
cell_counts owner n m (cell.Ind k) cells h = one_more owner n m (ind k) (variables_among cells) h

module _ (owner : Owner) (cells : List Cell) (i n : ℕ) (less : i < length cells) (h : IsCounting owner cells i n) where
  counts_at : (t : Term) (m : ℕ) (o : Option ℕ) → o ≡ variable_number owner (get_or cells i (cell.App 0 0 0)) → StandsFor cells t → terms.firsts same_variable (terms.variables t) ≡ owners_variables owner 0 m → CellCounts owner n m (variables_among (drop (i + 1) cells)) o
  counts_at t m o is stands firsts =
      subst (CellCounts owner n m (variables_among (drop (i + 1) cells))) (sym is)
      (cell_counts owner n m (get_or cells i (cell.App 0 0 0)) (drop (i + 1) cells)
      (subst (λ l. NumberedTo owner n (variables_among l) m) (here (i + 1) (omega arith)) (h.1 t m stands firsts)))
    where
      here : (j : ℕ) → suc i ≡ j → drop i cells ≡ get_or cells i (cell.App 0 0 0) ∷ drop j cells
      here j e = drop-cons cells i (cell.App 0 0 0) less ∙ ap (λ k. get_or cells i (cell.App 0 0 0) ∷ drop k cells) e

  pub counting_skips : None ≡ variable_number owner (get_or cells i (cell.App 0 0 0)) → IsCounting owner cells (i + 1) n
  counting_skips is = (omega (arith, h.0), λ t m stands firsts. counts_at t m None is stands firsts)

  pub counting_known : (k : ℕ) → Some k ≡ variable_number owner (get_or cells i (cell.App 0 0 0)) → k ≢ n → IsCounting owner cells (i + 1) n
  counting_known k is apart = (omega (arith, h.0), λ t m stands firsts. (counts_at t m (Some k) is stands firsts).0 apart)

  pub counting_more : (k : ℕ) → Some k ≡ variable_number owner (get_or cells i (cell.App 0 0 0)) → k ≡ n → IsCounting owner cells (i + 1) (n + 1)
  counting_more k is same = (
    omega (arith, h.0),
    λ t m stands firsts. subst (λ j. NumberedTo owner j (variables_among (drop (i + 1) cells)) m) (omega arith) ((counts_at t m (Some k) is stands firsts).1 same),
  )

pub counted_all : (owner : Owner) (cells : List Cell) (i n : ℕ) → length cells ≤ i → AreNumbered owner cells → IsCounting owner cells i n → HasVariables owner cells n
counted_all owner cells i n less numbered h t stands =
    let own = numbered t stands in
    let same : n ≡ own.0 = subst (λ l. NumberedTo owner n (variables_among l) own.0) (drop_of_length-le cells less) (h.1 t own.0 stands own.1) in
    own.1 ∙ ap (owners_variables owner 0) (sym same)

-- ---- which variables these are
numbered_grows : (owner : Owner) (n m : ℕ) (xs : List Variable) → NumberedTo owner n xs m → n ≤ m
numbered_grows owner n m [] h = omega (arith, h)
numbered_grows owner n m (x ∷ xs) h = elim h [ inl old ↦ numbered_grows owner n m xs old.3 | inr new ↦ (let r = numbered_grows owner (suc n) m xs new.1 in omega (arith, r)) ]

abbrev pub IsOneOf : Owner → ℕ → Variable → Type 0
IsOneOf owner m x = (k : ℕ) × (k < m) × (x ≡ owners_variable owner k)

numbered_all : (owner : Owner) (n m : ℕ) (xs : List Variable) → NumberedTo owner n xs m → AllByRecursion (IsOneOf owner m) xs
numbered_all owner n m [] h = tt
numbered_all owner n m (x ∷ xs) h =
    elim h [
      | inl old ↦ (let g = numbered_grows owner n m xs old.3 in ((old.0, omega (arith, old.1, g), old.2), numbered_all owner n m xs old.3))
      | inr new ↦ (let g = numbered_grows owner (suc n) m xs new.1 in ((n, omega (arith, g), new.0), numbered_all owner (suc n) m xs new.1))
    ]

pub all_of : (owner : Owner) (m : ℕ) (xs : List Variable) → terms.firsts same_variable xs ≡ owners_variables owner 0 m → AllByRecursion (IsOneOf owner m) xs
all_of owner m xs firsts = numbered_all owner 0 m xs (numbered_to owner m xs firsts)

-- ---- all cells are in range
abbrev Holds : Slots → Variable → Type 0
Holds slots x = CellIsInRange slots (variable_cell x)

range_of : (slots : Slots) (cells : List Cell) → AllByRecursion (Holds slots) (variables_among cells) → AreInRange slots cells
range_of slots [] h = tt
range_of slots (cell.App s a n ∷ cells) h = (tt, range_of slots cells h)
range_of slots (cell.Query n ∷ cells) h = (h.0, range_of slots cells h.1)
range_of slots (cell.Entry n ∷ cells) h = (h.0, range_of slots cells h.1)
range_of slots (cell.Ind n ∷ cells) h = (h.0, range_of slots cells h.1)

abbrev of_owner : Slots → Owner → ℕ
of_owner slots Query = slots.query
of_owner slots Entry = slots.entry

one_holds : (slots : Slots) (owner : Owner) (k : ℕ) → k < of_owner slots owner → Holds slots (owners_variable owner k)
one_holds slots Query k less = less
one_holds slots Entry k less = less

all_hold : (slots : Slots) (owner : Owner) (xs : List Variable) → AllByRecursion (IsOneOf owner (of_owner slots owner)) xs → AllByRecursion (Holds slots) xs
all_hold slots owner [] h = tt
all_hold slots owner (x ∷ xs) h = (subst (Holds slots) (sym h.0.2) (one_holds slots owner h.0.0 h.0.1), all_hold slots owner xs h.1)

-- the cells are in range of slots of which there are as many
pub in_range_of : (slots : Slots) (owner : Owner) (n : ℕ) (cells : List Cell) (t : Term) → of_owner slots owner ≡ n → StandsFor cells t → HasVariables owner cells n → AreInRange slots cells
in_range_of slots owner n cells t is stands has =
    range_of slots cells
    (
    subst (AllByRecursion (Holds slots)) (sym (ap variables_among stands.cells_are ∙ among_cells t))
    (all_hold slots owner (terms.variables t) (all_of owner (of_owner slots owner) (terms.variables t) (has t stands ∙ ap (owners_variables owner 0) (sym is))))
    )

-- ---- the variables of a query and an entry are apart
not_both : (j k : ℕ) (x : Variable) → x ≡ query j → x ≡ entry k → ⊥
not_both j k x a b = let bad : query j ≡ entry k = sym a ∙ b in cc

pub apart_owners : (m n : ℕ) (xs ys : List Variable) → terms.firsts same_variable xs ≡ owners_variables Query 0 m → terms.firsts same_variable ys ≡ owners_variables Entry 0 n → (x : Variable) → IsAmong xs x → IsAmong ys x → ⊥
apart_owners m n xs ys of_q of_e x a b =
    let one = all_at (IsOneOf Query m) xs x (all_of Query m xs of_q) a in
    let other = all_at (IsOneOf Entry n) ys x (all_of Entry n ys of_e) b in
    not_both one.0 other.0 x one.2 other.2

-- ---- the number of cells
pub first_span : (cells : List Cell) → IsWhole cells → (d : Cell) → span (get_or cells 0 d) ≡ length cells
first_span cells h d =
    ap (λ l. span (get_or l 0 d)) (h.1.cells_are ∙ sym (append-nil (cells_of h.0)))
    ∙ span-first h.0 [] d
    ∙ sym (length-cells_of h.0)
    ∙ ap length (sym h.1.cells_are)
