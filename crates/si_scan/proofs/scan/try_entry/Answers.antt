use Rattle.si_scan.specs.Scans.{Wants}
use Rattle.si_scan.proofs.QuestionLaws.{not_wanted}
use Rattle.si_scan.proofs.ScanLaws.{adds_one, adds_no}
use Rattle.si_scan.proofs.scan.try_entry.Goals as goal

pub returns-then-not-branch : goal.returns-then-not-branch
returns-then-not-branch c =
    adds_no (Wants c.args.question.now) _ c.args.gathered.now.found.items (not_wanted _ _ c.in_ok-is_answered.ensures c.if-not-branch.true)

pub returns : goal.returns
returns c =
    adds_one (Wants c.args.question.now) _ c.args.gathered.now.found.items _ (c.in_ok-is_answered.ensures.0 c.if-not-branch.false) c.in_ok-push.ensures.items
