-- `detector::EwmaDetector::recalibrate` meets its contract. Assumes nothing.
use Rattle.std.proofs.Common.{arith}
use Rattle.detector.specs.Ewma.{recalibrated}
use Rattle.detector.proofs.EwmaDetector.recalibrate.Goals as goal

pub returns-then-not-is_finite : goal.returns-then-not-is_finite
unfolding recalibrated
returns-then-not-is_finite c = grind (arith)

pub returns : goal.returns
unfolding recalibrated
returns c = grind (arith)
