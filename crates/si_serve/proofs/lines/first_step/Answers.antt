use Rattle.std.proofs.Common.{◌≡◌, ◌==◌, ◌+◌, ◌-◌, false, drop, take, arith, ap, sym, ◌∙◌}
use Rattle.std.specs.List.{list_any}
use Rattle.si_serve.proofs.LineFeeds.{none_in_step}
use Rattle.si_serve.proofs.lines.first_step.Goals as goal

pub loop-at-preserved : goal.loop-at-preserved
loop-at-preserved c =
    let at = c.loop-at.at in
    let bytes = c.args.bytes.now in
    let step : at + 16 - at ≡ 16 = omega arith in
    let none : list_any (λ c. c == 10) (take 16 (drop at bytes)) ≡ false =
    ap (λ n. list_any (λ c. c == 10) (take n (drop at bytes))) (sym step) ∙ sym c.has_line_feed.ensures ∙ c.if-has_line_feed.false in
    record {
      within = omega (arith, c.loop-at-test.true, c.loop-at.invariant.within);
      behind = none_in_step (λ c. c == 10) bytes at (omega (arith, c.loop-at-test.true, c.loop-at.invariant.within)) none c.loop-at.invariant.behind;
    }
