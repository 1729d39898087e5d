use Rattle.si_lanes.proofs.Kernel.{kernel}
use Rattle.si_lanes.proofs.is_subset.Goals as goal

-- src/lib.rt:30:1
pub returns : goal.returns
returns c = kernel c.args.row c.args.other c.fits-row.0 c.fits-row.1 c.fits-other.0 c.fits-other.1
