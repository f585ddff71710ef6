-- `detector::EwmaDetector::hold` meets its contract. Assumes nothing.
use Rattle.std.proofs.Common.{arith}
use Rattle.detector.specs.Ewma.{held}
use Rattle.detector.proofs.EwmaDetector.hold.Goals as goal

pub returns : goal.returns
unfolding held
returns c = grind arith
