-- `detector::EwmaDetector::settle` meets its contract. Assumes nothing.
use Rattle.std.proofs.Common.{arith}
use Rattle.detector.specs.Ewma.{settled}
use Rattle.detector.proofs.EwmaDetector.settle.Goals as goal

pub returns-then-anomalous : goal.returns-then-anomalous
unfolding settled
returns-then-anomalous c = grind arith

pub returns-else-anomalous : goal.returns-else-anomalous
unfolding settled
returns-else-anomalous c = grind arith
