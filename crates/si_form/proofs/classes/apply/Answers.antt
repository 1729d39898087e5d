use Rattle.std.proofs.Common.{[], ◌∷◌, length, reverse, ◌∙◌, ap, arith, length-append}
use Rattle.std.proofs.lemmas.List.{reverse-append}
use Rattle.si_form.proofs.NodeLaws.{applying_begins, applying_more, applying_ends}
use Rattle.si_form.proofs.classes.apply.Goals as goal

pub loop-init : goal.loop-init
loop-init c = record {
  is_applying = applying_begins _ _ _ (record { number = c.args.sym; arity = c.args.arity }) _ c.in_ok-front.ensures;
  within = omega arith;
  taken = omega arith;
}

pub unreachable-requires : goal.unreachable-requires
unreachable-requires c = omega (arith, c.requires, c.loop-test.true, c.loop.invariant.taken, c.in_default.ensures.cases.0, c.loop.numbers.ok)

pub loop-preserved : goal.loop-preserved
loop-preserved c = record {
  is_applying =
      applying_more _ _ _ _ _ _ _ _ _ c.in-Some.argument _ c.loop-test.true c.loop.invariant.is_applying (ap reverse c.in-Some.ensures.items ∙ reverse-append c.pop.new.self.items (c.in-Some.argument ∷ [])) c.in_ok-front-2.ensures;
  within = omega (arith, c.loop-test.true);
  taken =
      omega (arith, c.loop.invariant.taken, ap (λ l. length l) c.in-Some.ensures.items, length-append c.pop.new.self.items (c.in-Some.argument ∷ []));
}

pub returns-clause-applied : goal.returns-clause-applied
returns-clause-applied c =
    applying_ends _ _ _ _ _ _ _ c.loop-test.false c.loop.invariant.is_applying

pub returns-clause-taken : goal.returns-clause-taken
returns-clause-taken c = omega (arith, c.loop-test.false, c.loop.invariant.within, c.loop.invariant.taken)
