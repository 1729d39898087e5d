use Rattle.std.proofs.Common.{◌<◌, get_or, length, reverse, sym, ◌∙◌, ap, subst}
use Rattle.si_form.specs.Folding.{Folded, HasSymbol, UnfoldsClass}
use Rattle.si_form.proofs.FoldingLaws.{symbol_inside}
use Rattle.si_form.proofs.WritingLaws.{symbol_written}
use Rattle.si_form.proofs.WrittenLaws.{length-sizes_of, size_there}
use Rattle.si_form.proofs.folding.Folding.write_symbol.Goals as goal

pub descend-requires : goal.descend-requires
descend-requires c = subst (λ (f : Folded). HasSymbol f.nodes c.args.class) (sym c.self.view_is) c.requires

pub returns : goal.returns
returns c =
    let less : c.args.class < length c.self.inside.classes.nodes.keys = subst (λ (f : Folded). c.args.class < length f.nodes) (sym c.self.view_is) (symbol_inside c.args.self.now.nodes c.args.class c.requires) in
    let inside : c.args.class < length c.self.inside.written.items =
    subst (λ n. c.args.class < n) (sym c.self.invariant.sized.long ∙ length-sizes_of c.self.inside.written.items) less in
    let len = sym (size_there c.self.inside.written.items c.args.class c.index.result.now inside c.index.ensures) in
    symbol_written c.args.self.now (reverse c.args.left.now.items) (reverse c.descend.new.left.items) _ _ c.args.class c.in_ok-sym.sym c.in_ok-sym.arity _
    (subst (λ (f : Folded). UnfoldsClass f.nodes (reverse c.args.left.now.items) (reverse c.descend.new.left.items) c.args.class (c.in_ok-sym.sym, c.in_ok-sym.arity)) c.self.view_is c.in_ok-sym.ensures)
    (len ∙ ap (λ (f : Folded). get_or f.sizes c.args.class 0) c.self.view_is) c.in_ok-push.ensures.items
