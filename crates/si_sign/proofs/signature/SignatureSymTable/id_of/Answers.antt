use Rattle.std.proofs.Common.{◌≡◌, ℕ, ◌*◌, Some, None, ◌&&◌, ◌==◌, refl, sym, ap, subst, ◌∙◌}
use Rattle.std.proofs.lemmas.Option.{same_Some}
use Rattle.std.proofs.lemmas.Bool.{eqb-true, eq-eqb, and_parts, false≢true}
use Rattle.slab.specs.Slab.{get}
use Rattle.si_defs.specs.Symbols.{Symbol, IsNumbering, same_side}
use Rattle.si_defs.specs.Substitutions.{IsAmong}
use Rattle.si_state.specs.Signatures.{numbering}
use Rattle.si_term.specs.Terms.{symbol_of}
use Rattle.si_sign.specs.Uses.{key_in}
use Rattle.si_sign.specs.Uses.{seen}
use Rattle.si_sign.specs.declared.uses.CountedSymbol.{CountedSymbol}
use Rattle.si_defs.proofs.SymbolLaws.{side_is, side_self}
use Rattle.si_sign.proofs.KeptLaws.{is_signature, no_symbol, number_of, slot_of, slot_key}
use Rattle.si_sign.proofs.StepLaws.{known_slot, same_shape}
use Rattle.si_sign.proofs.signature.SignatureSymTable.id_of.Goals as goal

pub returns-in_default-clause-none : goal.returns-in_default-clause-none
returns-in_default-clause-none c =
    let u = c.self.inside.uses in
    let s : Symbol = symbol_of c.args.sym.now in
    let none : key_in u s.kind s.text ≡ None = sym c.find.ensures ∙ c.in_default.is in
    subst (λ k. (n : ℕ) → IsAmong (numbering k) (s, n) → ⊥) c.self.view_is (no_symbol u c.self.invariant s none)

pub returns-in_default-clause-numbering : goal.returns-in_default-clause-numbering
returns-in_default-clause-numbering c = subst (λ k. IsNumbering (numbering k)) c.self.view_is (is_signature c.self.inside.uses c.self.invariant).numbered

pub returns-then-not-has_shape_of-clause-none : goal.returns-then-not-has_shape_of-clause-none
returns-then-not-has_shape_of-clause-none c =
    let u = c.self.inside.uses in
    let s : Symbol = symbol_of c.args.sym.now in
    let w = c.index-counted.result.now in
    let known : key_in u s.kind s.text ≡ Some c.in-Some.key = sym c.find.ensures ∙ c.in-Some.is in
    let none : (n : ℕ) → IsAmong (numbering (seen u)) (s, n) → ⊥ = λ n h.
    let x = slot_of u c.self.invariant s n h in
    let slot = same_Some x.slot c.in-Some.key (sym (slot_key u c.self.invariant x.slot x.counted s x.there x.is) ∙ known) in
    let same = same_Some x.counted w (sym x.there ∙ ap (λ j. get u.slots j) slot ∙ c.index-counted.ensures) in
    let is : symbol_of w.sym ≡ s = ap (λ (d : CountedSymbol). symbol_of d.sym) (sym same) ∙ x.is in
    absurd (false≢true (sym c.if-not-has_shape_of.true ∙ c.has_shape_of.ensures ∙ (λ i. same_side s.side (is i).side && s.arity == (is i).arity) ∙ (λ i. side_self s.side i && eq-eqb s.arity s.arity refl i))) in
    subst (λ k. (n : ℕ) → IsAmong (numbering k) (s, n) → ⊥) c.self.view_is none

pub returns-then-not-has_shape_of-clause-numbering : goal.returns-then-not-has_shape_of-clause-numbering
returns-then-not-has_shape_of-clause-numbering c = subst (λ k. IsNumbering (numbering k)) c.self.view_is (is_signature c.self.inside.uses c.self.invariant).numbered

pub returns-clause-found : goal.returns-clause-found
returns-clause-found c =
    let u = c.self.inside.uses in
    let s : Symbol = symbol_of c.args.sym.now in
    let w = c.index-counted.result.now in
    let key = c.in-Some.key in
    let known : key_in u s.kind s.text ≡ Some key = sym c.find.ensures ∙ c.in-Some.is in
    let shape = and_parts (same_side s.side w.sym.side) (s.arity == w.sym.arity) (sym c.has_shape_of.ensures ∙ c.if-not-has_shape_of.false) in
    let is = same_shape s w (known_slot u c.self.invariant s key w known c.index-counted.ensures) (side_is s.side w.sym.side shape.0) (eqb-true s.arity w.sym.arity shape.1) in
    subst (λ k. IsAmong (numbering k) (s, 2 * key)) c.self.view_is
    (subst (λ r. IsAmong (numbering (seen u)) (r, 2 * key)) is (number_of u c.self.invariant key w c.index-counted.ensures))

pub returns-clause-numbering : goal.returns-clause-numbering
returns-clause-numbering c = subst (λ k. IsNumbering (numbering k)) c.self.view_is (is_signature c.self.inside.uses c.self.invariant).numbered
