use Rattle.std.proofs.Common.{◌≡◌, ◌==◌, take}
use Rattle.std.specs.List.{list_any}
use Rattle.si_serve.proofs.lines.has_line_feed.Given as goal

-- what was found is so of those that were looked at
abbrev pub invariant-loop-i : goal.invariant-loop-i
invariant-loop-i l = l.found ≡ list_any (λ c. c == 10) (take l.i l.step)
