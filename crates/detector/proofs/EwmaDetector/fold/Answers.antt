-- `detector::EwmaDetector::fold` meets its contract. Assumes nothing.
use Rattle.std.proofs.Common.{arith}
use Rattle.detector.specs.Ewma.{folded}
use Rattle.detector.proofs.EwmaDetector.fold.Goals as goal

pub returns-then-not-is_finite : goal.returns-then-not-is_finite
unfolding folded
returns-then-not-is_finite c = grind (arith)

pub returns : goal.returns
unfolding folded
returns c = grind (arith)
