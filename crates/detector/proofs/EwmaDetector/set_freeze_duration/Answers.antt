-- `detector::EwmaDetector::set_freeze_duration` meets its contract. Assumes nothing.
use Rattle.std.proofs.Common.{arith}
use Rattle.detector.specs.Ewma.{reset_of}
use Rattle.detector.proofs.EwmaDetector.set_freeze_duration.Goals as goal

pub returns-then-duration-eq0 : goal.returns-then-duration-eq0
unfolding reset_of
returns-then-duration-eq0 c = grind arith

pub returns : goal.returns
unfolding reset_of
returns c = grind arith
