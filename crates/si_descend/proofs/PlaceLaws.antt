-- The heads that can be wanted, and their places.
use Rattle.std.proofs.Common.{◌≡◌, ◌⊎◌, inl, inr, ℕ, zero, suc, ◌+◌, ◌<◌, ◌≤◌, true, Some, refl, ap, sym, ◌∙◌, arith}
use Rattle.std.proofs.lemmas.Bool.Decides.{eqb_tells}
use Rattle.si_defs.specs.Terms as terms
use Rattle.si_defs.specs.declared.Relation.{Relation}
use Rattle.si_flat.specs.declared.Cell.{Cell}
use Rattle.si_flat.specs.declared.Cell.TheVariants as cell
use Rattle.si_flat.specs.Cells.{query, entry, ind, Term, cells_of}
use Rattle.si_unify.specs.declared.slots.Slots.{Slots}
use Rattle.si_tree.specs.declared.node.Head.{Head}
use Rattle.si_tree.specs.declared.node.Head.TheVariants.{Sym, Var}
use Rattle.si_tree.specs.Rights.{cell_head}
use Rattle.si_fit.specs.Meeting.{first_cell_of}
use Rattle.si_descend.specs.Heads.{CannotMeet, KeepsVariables}
use Rattle.si_descend.specs.Attempts.{head_at, HasHeadBelow, IsPlaceOf, AreHeadsFor}
use Rattle.si_descend.proofs.HeadLaws.{symbols_apart, symbol_entry, entry_symbol, query_symbol, entries_apart}

-- what can be known of a term: it has one of the heads before this place, or can't meet one which
-- begins so
abbrev HasPlaceOrNone : Relation → Slots → Cell → ℕ → Term → Type 0
HasPlaceOrNone relation slots first end t =
    ((place : ℕ) × (place < end) × IsPlaceOf first t place) ⊎ CannotMeet relation slots first (first_cell_of (cells_of t))

-- ---- no place twice
one_place : (first : Cell) → ((m : ℕ) → cell_head first ≡ Some (Var m) → ⊥) → (i j : ℕ) (h : Head) → head_at first i ≡ Some h → head_at first j ≡ Some h → i ≡ j
one_place first none zero zero h p q = refl
one_place first none zero (suc j) h p q = absurd (none j (p ∙ sym q))
one_place first none (suc i) zero h p q = absurd (none i (q ∙ sym p))
one_place first none (suc i) (suc j) h p q = ap suc (by (p ∙ sym q)) where
  by : Some (Var i) ≡ Some (Var j) → i ≡ j
  by e = cc

first_only : (i j : ℕ) → i < 1 → j < 1 → i ≡ j
first_only i j p q = omega (arith, p, q)

-- ---- by the first cell
module _ (relation : Relation) (slots : Slots) (vars : ℕ) where
  symbol_all : (s a n end : ℕ) → 1 ≤ end → ((m : ℕ) → m < vars → (suc m < end) ⊎ KeepsVariables relation slots) → (t : Term) → HasHeadBelow vars t → HasPlaceOrNone relation slots (cell.App s a n) end t
  symbol_all s a n end some entries (terms.var (query k)) low = absurd low
  symbol_all s a n end some entries (terms.var (ind k)) low = absurd low
  symbol_all s a n end some entries (terms.var (entry m)) low = elim (entries m low) as (λ _. HasPlaceOrNone relation slots (cell.App s a n) end (terms.var (entry m))) [
    | inl less ↦ inl (suc m, less, (Var m, refl, refl))
    | inr keeps ↦ inr (symbol_entry relation slots s a n m keeps)
  ]
  symbol_all s a n end some entries (terms.app r ts) low = elim (eqb_tells r.number s) as (λ _. HasPlaceOrNone relation slots (cell.App s a n) end (terms.app r ts)) [
    | inl same ↦ elim (eqb_tells r.arity a) as (λ _. HasPlaceOrNone relation slots (cell.App s a n) end (terms.app r ts)) [
      | inl also ↦ inl (0, omega (arith, some), (Sym s a, refl, (same.1, also.1)))
      | inr apart ↦ inr (symbols_apart relation slots s a n r.number r.arity (1 + terms.sizes ts) (λ e. apart.1 (sym e.1)))
    ]
    | inr apart ↦ inr (symbols_apart relation slots s a n r.number r.arity (1 + terms.sizes ts) (λ e. apart.1 (sym e.0)))
  ]

  no_variable : (s a n m : ℕ) → cell_head (cell.App s a n) ≡ Some (Var m) → ⊥
  no_variable s a n m e = cc

  pub heads_of_symbol : (s a n : ℕ) → AreHeadsFor relation slots vars (cell.App s a n) (1 + vars)
  heads_of_symbol s a n = record {
    few = omega arith;
    one = λ i j h p q e f. one_place (cell.App s a n) (no_variable s a n) i j h e f;
    all = symbol_all s a n (1 + vars) (omega arith) (λ m less. inl (omega (arith, less)));
  }

  pub head_of_symbol : (s a n : ℕ) → KeepsVariables relation slots → AreHeadsFor relation slots vars (cell.App s a n) 1
  head_of_symbol s a n keeps = record {
    few = omega arith;
    one = λ i j h p q e f. first_only i j p q;
    all = symbol_all s a n 1 (omega arith) (λ m less. inr keeps);
  }

  pub heads_of_query : (k : ℕ) → slots.freeze_query ≡ true → AreHeadsFor relation slots vars (cell.Query k) (1 + vars)
  heads_of_query k frozen = record {
    few = omega arith;
    one = λ i j h p q e f. one_place (cell.Query k) no i j h e f;
    all = all;
  } where
    no : (m : ℕ) → cell_head (cell.Query k) ≡ Some (Var m) → ⊥
    no m e = cc

    all : (t : Term) → HasHeadBelow vars t → HasPlaceOrNone relation slots (cell.Query k) (1 + vars) t
    all (terms.var (query j)) low = absurd low
    all (terms.var (ind j)) low = absurd low
    all (terms.var (entry m)) low = inl (suc m, omega (arith, low), (Var m, refl, refl))
    all (terms.app r ts) low = inr (query_symbol relation slots r.number r.arity (1 + terms.sizes ts) k frozen)

  pub head_of_entry : (m : ℕ) → slots.freeze_entry ≡ true → AreHeadsFor relation slots vars (cell.Entry m) 1
  head_of_entry m frozen = record {
    few = omega arith;
    one = λ i j h p q e f. first_only i j p q;
    all = all;
  } where
    all : (t : Term) → HasHeadBelow vars t → HasPlaceOrNone relation slots (cell.Entry m) 1 t
    all (terms.var (query j)) low = absurd low
    all (terms.var (ind j)) low = absurd low
    all (terms.var (entry n)) low = elim (eqb_tells n m) as (λ _. HasPlaceOrNone relation slots (cell.Entry m) 1 (terms.var (entry n))) [
      | inl same ↦ inl (0, omega arith, (Var m, refl, same.1))
      | inr apart ↦ inr (entries_apart relation slots m n frozen (λ e. apart.1 (sym e)))
    ]
    all (terms.app r ts) low = inr (entry_symbol relation slots r.number r.arity (1 + terms.sizes ts) m frozen)
