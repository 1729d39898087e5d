-- What is read of right sides.
use Rattle.std.proofs.Common.{◌≡◌, ℕ, ◌<◌, cond, length, arith, subst, inl, inr, List, [], ◌∷◌, ◌++◌, Some, None, get_or, refl, sym, ◌∙◌, ap}
use Rattle.std.proofs.lemmas.List.{map-append}
use Rattle.std.proofs.lemmas.Bool.{eq-eqb}
use Rattle.std.proofs.lemmas.Bool.Decides.{eqb_tells}
use Rattle.std.proofs.lemmas.Option.{same_Some}
use Rattle.si_defs.specs.Terms as terms
use Rattle.si_defs.specs.Substitutions.{IsAmong, AreDistinct}
use Rattle.si_flat.specs.declared.Cell.{Cell}
use Rattle.si_flat.specs.Cells.{query, entry, ind, Term, cells_of, IsWhole}
use Rattle.si_flat.specs.Rows.{CellPair, left_sides, AreWhole}
use Rattle.si_flat.proofs.RowLaws.{distinct_parts}
use Rattle.si_flat.proofs.Subterms.{some_cell}
use Rattle.si_tree.specs.declared.node.Head.{Head}
use Rattle.si_tree.specs.declared.node.Head.TheVariants.{Sym, Var}
use Rattle.si_tree.specs.Decoding.{bindings_of}
use Rattle.si_tree.specs.Heads.{HasHead}
use Rattle.si_tree.proofs.DecodingLaws.{term_read}
use Rattle.si_tree.specs.Rights.{cell_head, first_head, head_in}

first_is : (cells : List Cell) (d : Cell) → 0 < length cells → cell_head (get_or cells 0 d) ≡ first_head cells
first_is [] d some = absurd (omega (arith, some))
first_is (c ∷ cells) d some = refl

pub head_here : (b : CellPair) (rest : List CellPair) (n : ℕ) (d : Cell) → b.0 ≡ n → IsWhole b.1 → cell_head (get_or b.1 0 d) ≡ head_in (b ∷ rest) n
head_here b rest n d same whole = first_is b.1 d (some_cell b.1 whole) ∙ sym (ap (λ t. cond t (first_head b.1) (head_in rest n)) (eq-eqb b.0 n same))

-- ---- the head of a right side
head_first : (t : Term) (h : Head) → first_head (cells_of t) ≡ Some h → HasHead t h
head_first (terms.var (query n)) h e = absurd (by e) where
  by : None ≡ Some h → ⊥
  by f = cc
head_first (terms.var (ind n)) h e = absurd (by e) where
  by : None ≡ Some h → ⊥
  by f = cc
head_first (terms.var (entry n)) h e = subst (HasHead (terms.var (entry n))) (same_Some (Var n) h e) refl
head_first (terms.app s ts) h e = subst (HasHead (terms.app s ts)) (same_Some (Sym s.number s.arity) h e) (refl, refl)

pub head_told : (cells : List CellPair) (n : ℕ) (h : Head) → AreWhole cells → head_in cells n ≡ Some h → (t : Term) × IsAmong (bindings_of cells) (n, t) × HasHead t h
head_told [] n h whole e = absurd (by e) where
  by : None ≡ Some h → ⊥
  by f = cc
head_told (c ∷ cells) n h whole e = elim (eqb_tells c.0 n) as (λ _. (t : Term) × IsAmong (bindings_of (c ∷ cells)) (n, t) × HasHead t h) [
  | inl same ↦
      (let here : first_head c.1 ≡ Some h = sym (ap (λ b. cond b (first_head c.1) (head_in cells n)) same.0) ∙ e in
      let t = whole.0.0 in
      (t, inl (λ i. (same.1 i, term_read c.1 t whole.0.1 i)), head_first t h (sym (ap first_head whole.0.1.cells_are) ∙ here)))
  | inr apart ↦
      (let later = head_told cells n h whole.1 (sym (ap (λ b. cond b (first_head c.1) (head_in cells n)) apart.0) ∙ e) in
      (later.0, inr later.1, later.2))
]

-- no variable of a query, and no indicator
abbrev pub IsHeaded : Term → Type 0
IsHeaded t = (h : Head) × HasHead t h

headed_first : (t : Term) → IsHeaded t → first_head (cells_of t) ≡ None → ⊥
headed_first (terms.var (query n)) (Sym s a, has) e = has
headed_first (terms.var (query n)) (Var m, has) e = has
headed_first (terms.var (ind n)) (Sym s a, has) e = has
headed_first (terms.var (ind n)) (Var m, has) e = has
headed_first (terms.var (entry n)) h e = cc
headed_first (terms.app s ts) h e = cc

pub head_found : (cells : List CellPair) (n : ℕ) → AreWhole cells → IsAmong (left_sides cells) n → ((t : Term) → IsAmong (bindings_of cells) (n, t) → IsHeaded t) → head_in cells n ≡ None → ⊥
head_found [] n whole a each e = a
head_found (c ∷ cells) n whole a each e = elim (eqb_tells c.0 n) as (λ _. ⊥) [
  | inl same ↦
      (let here : first_head c.1 ≡ None = sym (ap (λ b. cond b (first_head c.1) (head_in cells n)) same.0) ∙ e in
      let t = whole.0.0 in
      headed_first t (each t (inl (λ i. (same.1 i, term_read c.1 t whole.0.1 i)))) (sym (ap first_head whole.0.1.cells_are) ∙ here))
  | inr apart ↦
      head_found cells n whole.1 (elim a as (λ _. IsAmong (left_sides cells) n) [ inl p ↦ absurd (apart.1 p) | inr b ↦ b ]) (λ t b. each t (inr b))
      (sym (ap (λ b. cond b (first_head c.1) (head_in cells n)) apart.0) ∙ e)
]

pub lefts_read : (cells : List CellPair) → left_sides (bindings_of cells) ≡ left_sides cells
lefts_read [] = refl
lefts_read (c ∷ cells) = ap (λ ns. c.0 ∷ ns) (lefts_read cells)

-- ---- a list before others
pub next_unbound : (bs rest whole : List CellPair) (b : CellPair) → bs ++ b ∷ rest ≡ whole → AreDistinct (left_sides whole) → IsAmong (left_sides bs) b.0 → ⊥
next_unbound bs rest whole b is distinct a =
    (distinct_parts (left_sides bs) (b.0 ∷ left_sides rest) (subst AreDistinct (sym (ap left_sides is) ∙ map-append (λ c. c.0) bs (b ∷ rest)) distinct)).2 b.0 a (inl refl)
