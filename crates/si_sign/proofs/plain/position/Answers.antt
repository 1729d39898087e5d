use Rattle.std.proofs.Common.{◌≡◌, ◌⊎◌, inl, inr, map, take, ap, sym, ◌∙◌}
use Rattle.std.proofs.lemmas.Bool.{false≢true}
use Rattle.si_state.specs.Acceptance.{IsTaken}
use Rattle.si_term.specs.Meaning.{clause_of, name_of}
use Rattle.si_term.specs.declared.clause.Clause.{Clause}
use Rattle.si_sign.proofs.PlainLaws.{taken_next}
use Rattle.si_sign.proofs.plain.position.Goals as goal

pub loop-i-preserved : goal.loop-i-preserved
loop-i-preserved c = λ h. by (taken_next c.args.clauses.now c.loop-i.i c.index-clauses-i.result c.loop-i-test.true c.index-clauses-i.is (name_of c.args.name.now) h) where
  by : IsTaken (map clause_of (take c.loop-i.i c.args.clauses.now)) (name_of c.args.name.now) ⊎ (name_of c.index-clauses-i.result.name ≡ name_of c.args.name.now) → ⊥
  by (inl k) = c.loop-i.invariant k
  by (inr e) = absurd (false≢true (sym c.if-is_same_name.false ∙ c.is_same_name.ensures.1 (ap (λ (d : Clause). name_of d.name) (sym c.index-clauses-i.is) ∙ e)))
