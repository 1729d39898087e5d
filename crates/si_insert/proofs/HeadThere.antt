-- The head of what stands at an indicator that is open.
use Rattle.std.proofs.Common.{◌≡◌, ℕ, List, ◌++◌, length, take, drop, get_or, Some, sym, ◌∙◌, ap, subst}
use Rattle.std.proofs.lemmas.List.{take-append-drop}
use Rattle.std.proofs.lemmas.Option.{same_Some}
use Rattle.si_defs.specs.Terms as terms
use Rattle.si_defs.specs.Substitutions.{IsAmong, AreDistinct}
use Rattle.si_flat.specs.declared.Cell.{Cell}
use Rattle.si_flat.specs.declared.Cell.TheVariants as cell
use Rattle.si_flat.specs.Cells.{query, entry, ind, Term, IsWhole, StandsFor}
use Rattle.si_flat.specs.Rows.{first_span}
use Rattle.si_legal.specs.Bindings.{Binding, StandForBindings}
use Rattle.si_tree.specs.declared.node.Head.{Head}
use Rattle.si_tree.specs.declared.node.Head.TheVariants.{Sym, Var}
use Rattle.si_tree.specs.Heads.{HasHead}
use Rattle.si_tree.specs.Rights.{cell_head}
use Rattle.si_insert.specs.declared.open.Opened.{Opened}
use Rattle.si_insert.specs.Opened.{numbers, term_at, BeginsAtPlace, open_pairs}
use Rattle.si_insert.proofs.PassLaws.{open_among, one_opened, number_among}
use Rattle.si_insert.proofs.FitTurns.{head_cell, first_cell, IsThere, there}
use Rattle.si_insert.proofs.OpenPairs.{term_there}

-- ---- heads of cells
pub head_told : (t : Term) (head : Head) → HasHead t head → cell_head (head_cell t) ≡ Some head
head_told (terms.app s ts) (Sym number arity) h = λ i. Some (Sym (h.0 i) (h.1 i))
head_told (terms.app s ts) (Var n) h = absurd h
head_told (terms.var (entry m)) (Var n) h = ap (λ k. Some (Var k)) h
head_told (terms.var (entry m)) (Sym number arity) h = absurd h
head_told (terms.var (query m)) head h = absurd h
head_told (terms.var (ind m)) head h = absurd h

pub told_head : (t : Term) (head : Head) → cell_head (head_cell t) ≡ Some head → HasHead t head
told_head (terms.app s ts) (Sym number arity) e = (ap number_of (same_Some _ _ e), ap arity_of (same_Some _ _ e)) where
  number_of : Head → ℕ
  number_of (Sym n a) = n
  number_of (Var n) = 0

  arity_of : Head → ℕ
  arity_of (Sym n a) = a
  arity_of (Var n) = 0
told_head (terms.app s ts) (Var n) e = absurd cc
told_head (terms.var (entry m)) (Var n) e = ap number_of (same_Some _ _ e) where
  number_of : Head → ℕ
  number_of (Sym n a) = 0
  number_of (Var n) = n
told_head (terms.var (entry m)) (Sym number arity) e = absurd cc
told_head (terms.var (query m)) head e = absurd cc
told_head (terms.var (ind m)) head e = absurd cc

-- ---- the place
-- the term that stands there
pub stands_there : (cells : List Cell) (at : ℕ) (t : Term) (d : Cell) → StandsFor (term_at cells at) t → IsThere cells at t (drop (first_span (drop at cells)) (drop at cells)) d
stands_there cells at t d stands = there cells at t (drop (first_span (drop at cells)) (drop at cells)) d stands.sound (sym (take-append-drop (first_span (drop at cells)) (drop at cells)) ∙ ap (λ l. l ++ drop (first_span (drop at cells)) (drop at cells)) stands.cells_are)

pub part_there : (cells : List Cell) (all : List Opened) (there' : List Binding) (n at : ℕ) (t : Term) → AreDistinct (numbers all) → StandForBindings (open_pairs cells all) there' → IsAmong there' (n, t) → BeginsAtPlace all n at → StandsFor (term_at cells at) t
part_there cells all there' n at t distinct stand among place =
    let o = open_among cells all there' n t stand among in
    let same : o.0 ≡ place.0 = one_opened all o.0 place.0 distinct o.1 place.1 (o.2 ∙ sym place.2) in
    subst (λ k. StandsFor (term_at cells k) t) (ap (λ q. q.at) same ∙ place.3) o.3

pub was_opened : (cells : List Cell) (all : List Opened) (there' : List Binding) (n : ℕ) (t : Term) → StandForBindings (open_pairs cells all) there' → IsAmong there' (n, t) → IsAmong (numbers all) n
was_opened cells all there' n t stand among =
    let o = open_among cells all there' n t stand among in
    subst (IsAmong (numbers all)) o.2 (number_among all o.0 o.1)

-- the first cell of what is found there
pub first_of_part : (cells part : List Cell) (at : ℕ) (t : Term) → part ≡ take (length part) (drop at cells) → IsWhole part → StandsFor (term_at cells at) t → get_or part 0 (cell.App 0 0 0) ≡ head_cell t
first_of_part cells part at t e whole stands = ap (λ l. get_or l 0 (cell.App 0 0 0)) (term_there cells part at e whole ∙ stands.cells_are ∙ first_cell t)
