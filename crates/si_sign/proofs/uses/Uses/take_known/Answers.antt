use Rattle.std.proofs.Common.{◌≡◌, ◌+◌, ◌-◌, ◌&&◌, ◌==◌, Some, refl, sym, ap, ◌∙◌, arith}
use Rattle.std.proofs.lemmas.Option.{same_Some}
use Rattle.std.proofs.lemmas.Bool.{eqb-true, and_parts}
use Rattle.si_defs.specs.Symbols.{Symbol, same_side}
use Rattle.si_term.specs.Terms.{symbol_of}
use Rattle.si_sign.specs.Uses.{seen}
use Rattle.si_sign.specs.declared.uses.CountedSymbol.{CountedSymbol}
use Rattle.si_defs.proofs.SymbolLaws.{side_is}
use Rattle.si_sign.proofs.KeptLaws.{uses_at}
use Rattle.si_sign.proofs.ChangeLaws.{changed}
use Rattle.si_sign.proofs.StepLaws.{known_slot, recounted, recounted_there, another_use, takes_step, agrees_known, refuses_known, same_shape, uses_total}
use Rattle.si_sign.proofs.uses.Uses.take_known.Goals as goal

pub returns-then-not-has_shape_of-clause-why : goal.returns-then-not-has_shape_of-clause-why
returns-then-not-has_shape_of-clause-why c =
    let t = c.args.self.now in
    let position : c.args.begin + (t.total - c.args.begin) ≡ t.total = omega (arith, c.requires.begun) in
    refuses_known c.args.begin t c.requires.uses (symbol_of c.args.symbol.now) c.args.key c.index.result.now _ c.requires.key c.index.ensures
    (sym c.has_shape_of.ensures ∙ c.if-not-has_shape_of.true) c.shape.ensures c.shape-then-not-has_shape_of.ensures position

pub overflow_add-index_mut : goal.overflow_add-index_mut
overflow_add-index_mut c =
    let t = c.args.self.now in
    let w = c.index_mut.result.now in
    omega (arith, uses_at t c.requires.uses c.args.key w c.index_mut.ensures.value, uses_total (seen t) (symbol_of w.sym), c.requires.uses.counted, c.requires.room)

pub returns-clause-uses : goal.returns-clause-uses
returns-clause-uses c =
    let t = c.args.self.now in
    let s = symbol_of c.args.symbol.now in
    let w = c.index_mut.result.now in
    let d : CountedSymbol = record { sym = w.sym; uses = w.uses + 1 } in
    let change = recounted t c.requires.uses s c.args.key w d (t.total + 1) c.requires.key c.index_mut.ensures.value refl (omega arith) (omega arith) (omega (arith, c.requires.room)) in
    changed t _ s.kind s.text c.args.key c.requires.uses change

pub returns-clause-ok : goal.returns-clause-ok
returns-clause-ok c =
    let t = c.args.self.now in
    let s : Symbol = symbol_of c.args.symbol.now in
    let w = c.index_mut.result.now in
    let there = c.index_mut.ensures.value in
    let d : CountedSymbol = record { sym = w.sym; uses = w.uses + 1 } in
    let change = recounted t c.requires.uses s c.args.key w d (t.total + 1) c.requires.key there refl (omega arith) (omega arith) (omega (arith, c.requires.room)) in
    let same : c.index.result.now ≡ w = same_Some _ _ (sym c.index.ensures ∙ there) in
    let shape = and_parts (same_side s.side w.sym.side) (s.arity == w.sym.arity)
    (ap (λ (x : CountedSymbol). same_side s.side x.sym.side && s.arity == x.sym.arity) (sym same) ∙ sym c.has_shape_of.ensures ∙ c.if-not-has_shape_of.false) in
    let is = same_shape s w (known_slot t c.requires.uses s c.args.key w c.requires.key there) (side_is s.side w.sym.side shape.0) (eqb-true s.arity w.sym.arity shape.1) in
    takes_step t _ s c.args.key (Some w) (Some d) c.requires.uses change there (recounted_there t c.args.key w d (t.total + 1) there)
    (another_use s w d is is refl) refl (agrees_known t c.requires.uses s c.args.key w c.requires.key there is)
