use Rattle.std.proofs.Common.{◌≡◌, arith, subst}
use Rattle.si_defs.specs.Generator.{clauses, IsSample}
use Rattle.si_sample.specs.Sampling.{DrawsOnto}
use Rattle.si_sample.proofs.Gaining.{gains_no_clause, gains_one_more, is_sample}
use Rattle.si_sample.proofs.Lengths.{length_sample}
use Rattle.si_sample.proofs.Lines.{sample_is_clauses}
use Rattle.si_sample.proofs.sample.Goals as goal

pub loop-i-init : goal.loop-i-init
loop-i-init c = gains_no_clause c.new-sampler.result

pub loop-i-preserved : goal.loop-i-preserved
loop-i-preserved c = gains_one_more c.loop-i.i c.loop-i.invariant c.in_ok-clause.ensures

drawn : (c : goal.After-into_text) → IsSample c.args.start c.args.count c.into_text.result.items
drawn c =
    let all : c.loop-i.i ≡ c.args.count = omega (arith, c.loop-i-test.false, c.loop-i.auto.i-end) in
    is_sample c.args.start c.args.count c.into_text.result.items c.new-sampler.ensures.state c.new-sampler.ensures.text c.into_text.ensures
    (subst (λ n. DrawsOnto (clauses n) c.new-sampler.result c.loop-i.sampler) all c.loop-i.invariant)

pub returns-clause-drawn : goal.returns-clause-drawn
returns-clause-drawn c = drawn c

pub returns-clause-clauses : goal.returns-clause-clauses
returns-clause-clauses c = let read = sample_is_clauses c.args.start c.args.count c.into_text.result.items (drawn c) in (read.0, read.2)

pub returns-clause-short : goal.returns-clause-short
returns-clause-short c = length_sample c.args.start c.args.count c.into_text.result.items c.requires.count.1 (drawn c)
