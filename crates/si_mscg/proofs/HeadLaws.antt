-- Heads that are compared: first symbols, and then variables.
use Rattle.std.proofs.Common.{◌≡◌, ◌↔◌, ℕ, ◌==◌, Bool, true, false, sym, ◌∙◌}
use Rattle.std.proofs.lemmas.Bool.{eqb-true, eq-eqb}
use Rattle.std.specs.Prelude.{IsTrue}
use Rattle.si_defs.proofs.BoolLaws.{agreed}
use Rattle.si_flat.specs.declared.Cell.{Cell}
use Rattle.si_flat.specs.declared.Cell.TheVariants as cell
use Rattle.si_unify.specs.Symbols.{same_symbol, IsSameVariable}
use Rattle.si_mscg.specs.Generalising.{same_head_cell}

pub same_symbols : (c d : Cell) → same_symbol c d ≡ true → true ≡ same_head_cell c d
same_symbols (cell.App s a m) (cell.App r b n) e = sym e
same_symbols (cell.App s a m) (cell.Query n) e = absurd cc
same_symbols (cell.App s a m) (cell.Entry n) e = absurd cc
same_symbols (cell.App s a m) (cell.Ind n) e = absurd cc
same_symbols (cell.Query m) d e = absurd cc
same_symbols (cell.Entry m) d e = absurd cc
same_symbols (cell.Ind m) d e = absurd cc

by_numbers : (m n : ℕ) (same : Bool) → (IsTrue same ↔ (m ≡ n)) → same ≡ (m == n)
by_numbers m n same h = agreed same (m == n) (λ e. eq-eqb m n (h.0 e)) (λ e. h.1 (eqb-true m n e))

never : (same : Bool) → (IsTrue same → ⊥) → same ≡ false
never same h = agreed same false (λ e. absurd (h e)) (λ e. absurd cc)

pub same_variables : (c d : Cell) (same : Bool) → same_symbol c d ≡ false → (IsTrue same ↔ IsSameVariable c d) → same ≡ same_head_cell c d
same_variables (cell.App s a m) (cell.App r b n) same differ h = never same (λ e. h.0 e) ∙ sym differ
same_variables (cell.Query m) (cell.Query n) same differ h = by_numbers m n same h
same_variables (cell.Entry m) (cell.Entry n) same differ h = by_numbers m n same h
same_variables (cell.Ind m) (cell.Ind n) same differ h = by_numbers m n same h
same_variables (cell.App s a m) (cell.Query n) same differ h = never same (λ e. h.0 e)
same_variables (cell.App s a m) (cell.Entry n) same differ h = never same (λ e. h.0 e)
same_variables (cell.App s a m) (cell.Ind n) same differ h = never same (λ e. h.0 e)
same_variables (cell.Query m) (cell.App r b n) same differ h = never same (λ e. h.0 e)
same_variables (cell.Query m) (cell.Entry n) same differ h = never same (λ e. h.0 e)
same_variables (cell.Query m) (cell.Ind n) same differ h = never same (λ e. h.0 e)
same_variables (cell.Entry m) (cell.App r b n) same differ h = never same (λ e. h.0 e)
same_variables (cell.Entry m) (cell.Query n) same differ h = never same (λ e. h.0 e)
same_variables (cell.Entry m) (cell.Ind n) same differ h = never same (λ e. h.0 e)
same_variables (cell.Ind m) (cell.App r b n) same differ h = never same (λ e. h.0 e)
same_variables (cell.Ind m) (cell.Query n) same differ h = never same (λ e. h.0 e)
same_variables (cell.Ind m) (cell.Entry n) same differ h = never same (λ e. h.0 e)
