use Rattle.std.proofs.Common.{◌≡◌, ◌≤◌, ℕ, ◌∙◌, sym, ap, arith}
use Rattle.std.specs.Prelude.{decimal}
use Rattle.si_session.proofs.Numbers.{decimal_text, decimal_read, decimal_refused, texts_differ}
use Rattle.si_session.proofs.number.number_of.Goals.{else-number-most-via-then-number-most+else-eq, else-number-most-via-else-number-most}
use Rattle.si_session.proofs.number.number_of.Goals as goal

pub returns-in_default-clause-none : goal.returns-in_default-clause-none
returns-in_default-clause-none c =
    λ n less e. c.in_default.ensures.cases.0 (decimal_text c.args.text.now n (omega (arith, less, c.ranges.most)) e)

pub returns-in_default-parse-clause-none : goal.returns-in_default-parse-clause-none
returns-in_default-parse-clause-none c =
    λ n less e.
    decimal_refused c.in-Ok.digits.now n c.in_default-parse.field-0 c.parse.result (omega (arith, less, c.ranges.most)) (c.in-Ok.ensures.cases.0 ∙ e) c.parse.ensures.value.0
    c.in_default-parse.is

pub returns-else-number-most-clause-none : goal.returns-else-number-most-clause-none
returns-else-number-most-clause-none c = elim c.else-number-most.branch [
  | else-number-most-via-then-number-most+else-eq w ↦
      λ n less e.
      texts_differ w.eq.result w.as_bytes.result.now c.args.text.now w.eq.ensures w.if-eq.false
      (w.as_bytes.ensures.value ∙ w.format.ensures.text ∙ ap decimal (same c n less e) ∙ sym e)
  | else-number-most-via-else-number-most w ↦ λ n less e. absurd (omega (arith, same c n less e, less, w.if-number-most.false))
] where
  same : (c : goal.Joined-else-number-most) (n : ℕ) → n ≤ c.args.most → c.args.text.now ≡ decimal n → c.in-Ok-parse.number ≡ n
  same c n less e =
      decimal_read c.in-Ok.digits.now n c.in-Ok-parse.number c.parse.result (omega (arith, less, c.ranges.most)) (c.in-Ok.ensures.cases.0 ∙ e) c.parse.ensures.value.0 c.in-Ok-parse.is
