use Rattle.std.proofs.Common.{◌<◌, arith}
use Rattle.std.proofs.lemmas.Result.{on_ok_weaker}
use Rattle.si_defs.specs.Generator.{leaves}
use Rattle.si_sample.proofs.Gaining.{gains_leaf, gains_unary, gains_binary, gains_other, gains_before, gains_one_of}
use Rattle.si_sample.proofs.sampler.Sampler.+terms.Goals as goal

pub term-returns-then-depth-eq0 : goal.term-returns-then-depth-eq0
term-returns-then-depth-eq0 n c =
    on_ok_weaker c.leaf.result
    (λ g. gains_leaf c.args.depth c.if-depth-eq0.true (gains_one_of leaves c.draw-number.result c.draw-number.ensures.drawn g))
    c.leaf.ensures

pub term-returns-in-4 : goal.term-returns-in-4
term-returns-in-4 n c =
    on_ok_weaker c.unary.result (λ g. gains_unary c.args.depth c.draw.result c.if-depth-eq0.false c.in-4.is c.draw.ensures.drawn g) c.unary.ensures

pub term-returns-in-5 : goal.term-returns-in-5
term-returns-in-5 n c =
    on_ok_weaker c.binary.result (λ g. gains_binary c.args.depth c.draw.result c.if-depth-eq0.false c.in-5.is c.draw.ensures.drawn g) c.binary.ensures

pub term-returns-in_default : goal.term-returns-in_default
term-returns-in_default n c =
    let early : c.draw.result < 4 = omega (arith, c.in_default, c.draw.ensures.below) in
    on_ok_weaker c.leaf-in_default.result (λ g. gains_other c.args.depth c.draw.result c.if-depth-eq0.false early c.draw.ensures.drawn g) c.leaf-in_default.ensures

pub unary-returns : goal.unary-returns
unary-returns n c = on_ok_weaker c.put-2.result (λ g. gains_before (gains_before c.in_ok-put.ensures c.in_ok-term.ensures) g) c.put-2.ensures

pub binary-returns : goal.binary-returns
binary-returns n c =
    on_ok_weaker c.put-3.result
    (λ g. gains_before (gains_before (gains_before (gains_before c.in_ok-put.ensures c.in_ok-term.ensures) c.in_ok-put-2.ensures) c.in_ok-term-2.ensures) g)
    c.put-3.ensures
