use Rattle.si_lanes.proofs.Kernel.{first_within}
use Rattle.si_lanes.proofs.is_within.Goals as goal

pub returns-then-row-other-ne0 : goal.returns-then-row-other-ne0
returns-then-row-other-ne0 c = (
  λ e. absurd cc,
  λ h. absurd (c.if-row-other-ne0.true (first_within c.args.row.now c.args.other.now (c.fits-row 0) (c.fits-other 0) h)),
)
