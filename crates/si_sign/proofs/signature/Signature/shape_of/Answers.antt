use Rattle.std.proofs.Common.{◌≡◌, sym, ap, subst, ◌∙◌}
use Rattle.std.proofs.lemmas.Option.{same_Some}
use Rattle.si_defs.specs.Symbols.{Symbol}
use Rattle.si_defs.specs.Substitutions.{IsAmong}
use Rattle.si_state.specs.Signatures.{IsSignature, known_symbols, keys}
use Rattle.si_sign.specs.Uses.{used_at, seen}
use Rattle.si_sign.proofs.UsesOf.{among_symbols}
use Rattle.si_sign.proofs.KeptLaws.{is_signature, no_key, in_seen}
use Rattle.si_sign.proofs.signature.Signature.shape_of.Goals as goal

pub returns-in_default-clause-none : goal.returns-in_default-clause-none
returns-in_default-clause-none c =
    let u = c.self.inside.uses in
    subst (λ k. IsAmong (keys k) (c.args.kind, c.args.text.now) → ⊥) c.self.view_is
    (no_key u c.self.invariant c.args.kind c.args.text.now (sym c.key_of.ensures ∙ c.in_default.is))

pub returns-in_default-clause-signature : goal.returns-in_default-clause-signature
returns-in_default-clause-signature c = subst IsSignature c.self.view_is (is_signature c.self.inside.uses c.self.invariant)

pub returns-clause-found : goal.returns-clause-found
returns-clause-found c =
    let u = c.self.inside.uses in
    let w = c.index-counted.result.now in
    let r = c.self.invariant.found c.args.kind c.args.text.now c.in-Some.key (sym c.key_of.ensures ∙ c.in-Some.is) in
    let same = same_Some r.0 w (sym r.1 ∙ c.index-counted.ensures) in
    let s : Symbol = record { kind = c.args.kind; text = c.args.text.now; side = c.shape.result.side; arity = c.shape.result.arity } in
    let is : record { kind = w.sym.kind; text = w.sym.text; side = w.sym.side; arity = w.sym.arity } ≡ s = λ i. record {
      kind = (ap (λ d. d.sym.kind) (sym same) ∙ r.2) i;
      text = (ap (λ d. d.sym.text) (sym same) ∙ r.3) i;
      side = (sym c.shape.ensures i).side;
      arity = (sym c.shape.ensures i).arity;
    } in
    subst (λ k. IsAmong (known_symbols k) s) c.self.view_is
    (subst (IsAmong (known_symbols (seen u))) is (among_symbols (seen u) (used_at c.in-Some.key w) (in_seen u c.self.invariant c.in-Some.key w c.index-counted.ensures)))

pub returns-clause-signature : goal.returns-clause-signature
returns-clause-signature c = subst IsSignature c.self.view_is (is_signature c.self.inside.uses c.self.invariant)
