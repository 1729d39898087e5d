use Rattle.std.proofs.Common.{◌≡◌, ◌*◌, ◌/◌, Some, None, sym, ap, subst, ◌∙◌, arith}
use Rattle.std.specs.Prelude.{option_copied}
use Rattle.slab.specs.Slab.{get}
use Rattle.si_defs.specs.Symbols.{Symbol, IsNumbering}
use Rattle.si_defs.specs.Substitutions.{IsAmong}
use Rattle.si_state.specs.Signatures.{numbering}
use Rattle.si_term.specs.Terms.{symbol_of}
use Rattle.si_sign.specs.Uses.{seen}
use Rattle.si_sign.proofs.KeptLaws.{is_signature, number_of, slot_of}
use Rattle.si_sign.proofs.signature.SignatureSymTable.sym_at.Goals as goal

pub returns-in_default-clause-none : goal.returns-in_default-clause-none
returns-in_default-clause-none c =
    let u = c.self.inside.uses in
    let none : get u.slots (c.args.id / 2) ≡ None = sym c.get.ensures ∙ ap option_copied c.in_default.is in
    let apart : (s : Symbol) → IsAmong (numbering (seen u)) (s, c.args.id) → ⊥ = λ s h.
    let x = slot_of u c.self.invariant s c.args.id h in
    let slot : x.slot ≡ c.args.id / 2 = omega (arith, x.twice) in
    let clash : None ≡ Some x.counted = sym none ∙ ap (get u.slots) (sym slot) ∙ x.there in
    cc in
    subst (λ k. (s : Symbol) → IsAmong (numbering k) (s, c.args.id) → ⊥) c.self.view_is apart

pub returns-in_default-clause-numbering : goal.returns-in_default-clause-numbering
returns-in_default-clause-numbering c = subst (λ k. IsNumbering (numbering k)) c.self.view_is (is_signature c.self.inside.uses c.self.invariant).numbered

pub returns-then-id-eq1-clause-none : goal.returns-then-id-eq1-clause-none
returns-then-id-eq1-clause-none c =
    let u = c.self.inside.uses in
    let apart : (s : Symbol) → IsAmong (numbering (seen u)) (s, c.args.id) → ⊥ = λ s h.
    let x = slot_of u c.self.invariant s c.args.id h in
    omega (arith, x.twice, c.if-id-eq1.true) in
    subst (λ k. (s : Symbol) → IsAmong (numbering k) (s, c.args.id) → ⊥) c.self.view_is apart

pub returns-then-id-eq1-clause-numbering : goal.returns-then-id-eq1-clause-numbering
returns-then-id-eq1-clause-numbering c = subst (λ k. IsNumbering (numbering k)) c.self.view_is (is_signature c.self.inside.uses c.self.invariant).numbered

pub returns-clause-found : goal.returns-clause-found
returns-clause-found c =
    let u = c.self.inside.uses in
    let w = c.in-Some.counted.now in
    let there : get u.slots (c.args.id / 2) ≡ Some w = sym c.get.ensures ∙ ap option_copied c.in-Some.is in
    let number : 2 * (c.args.id / 2) ≡ c.args.id = omega (arith, c.if-id-eq1.false) in
    subst (λ k. IsAmong (numbering k) (symbol_of w.sym, c.args.id)) c.self.view_is
    (subst (λ n. IsAmong (numbering (seen u)) (symbol_of w.sym, n)) number (number_of u c.self.invariant (c.args.id / 2) w there))

pub returns-clause-numbering : goal.returns-clause-numbering
returns-clause-numbering c = subst (λ k. IsNumbering (numbering k)) c.self.view_is (is_signature c.self.inside.uses c.self.invariant).numbered
