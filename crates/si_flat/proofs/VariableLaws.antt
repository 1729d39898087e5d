-- The variables of cells are told apart.
use Rattle.std.proofs.Common.{◌≡◌, true, false, refl, sym, ◌∙◌, ap, inl, inr}
use Rattle.std.proofs.lemmas.Bool.Decides.{eqb_tells}
use Rattle.std.proofs.lemmas.Bool.{eq-eqb}
use Rattle.si_flat.specs.Cells.{Variable, query, entry, ind, same_variable}

pub variable_is : (x y : Variable) → same_variable x y ≡ true → x ≡ y
variable_is (query m) (query n) e = elim (eqb_tells m n) [ inl h ↦ ap query h.1 | inr h ↦ let bad : true ≡ false = sym e ∙ h.0 in cc ]
variable_is (query m) (entry n) e = cc
variable_is (query m) (ind n) e = cc
variable_is (entry m) (query n) e = cc
variable_is (entry m) (entry n) e = elim (eqb_tells m n) [ inl h ↦ ap entry h.1 | inr h ↦ let bad : true ≡ false = sym e ∙ h.0 in cc ]
variable_is (entry m) (ind n) e = cc
variable_is (ind m) (query n) e = cc
variable_is (ind m) (entry n) e = cc
variable_is (ind m) (ind n) e = elim (eqb_tells m n) [ inl h ↦ ap ind h.1 | inr h ↦ let bad : true ≡ false = sym e ∙ h.0 in cc ]

pub variable_self : (x : Variable) → same_variable x x ≡ true
variable_self (query n) = eq-eqb n n refl
variable_self (entry n) = eq-eqb n n refl
variable_self (ind n) = eq-eqb n n refl
