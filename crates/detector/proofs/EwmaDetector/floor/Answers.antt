-- `detector::EwmaDetector::floor` meets its contract. Assumes nothing.
use Rattle.std.proofs.Common.{arith}
use Rattle.detector.specs.Ewma.{floor_of}
use Rattle.detector.proofs.EwmaDetector.floor.Goals as goal

pub returns-else-floor : goal.returns-else-floor
unfolding floor_of
returns-else-floor c = grind (arith)

pub returns-then-floor : goal.returns-then-floor
unfolding floor_of
returns-then-floor c = grind (arith)
