use Rattle.std.proofs.Common.{◌≡◌, ◌==◌, ◌-◌, length, drop, take, take_all, length-drop, arith, ap, sym, ◌∙◌}
use Rattle.std.specs.List.{position}
use Rattle.si_serve.proofs.LineFeeds.{found_behind, none_behind}
use Rattle.si_serve.proofs.lines.line_feed.Goals as goal

pub returns-in-Some : goal.returns-in-Some
returns-in-Some c =
    let at = c.first_step-at.result in
    let bytes = c.args.bytes.now in
    let within = c.first_step-at.ensures.within in
    let rest : take (length bytes - at) (drop at bytes) ≡ drop at bytes = take_all _ _ (omega (arith, length-drop at bytes)) in
    found_behind (λ c. c == 10) at c.in-Some.place bytes (drop at bytes) (omega (arith, length-drop at bytes, within)) c.first_step-at.ensures.none_before
    (ap (position (λ c. c == 10)) (sym rest) ∙ sym c.first_among.ensures ∙ c.in-Some.is)

pub returns-in-None : goal.returns-in-None
returns-in-None c =
    let at = c.first_step-at.result in
    let bytes = c.args.bytes.now in
    let within = c.first_step-at.ensures.within in
    let rest : take (length bytes - at) (drop at bytes) ≡ drop at bytes = take_all _ _ (omega (arith, length-drop at bytes)) in
    none_behind (λ c. c == 10) at bytes (drop at bytes) (omega (arith, length-drop at bytes, within)) c.first_step-at.ensures.none_before
    (ap (position (λ c. c == 10)) (sym rest) ∙ sym c.first_among.ensures ∙ c.in-None.is)
