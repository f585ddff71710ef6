-- `detector::EwmaDetector::with_options` meets its contract. Assumes nothing.
use Rattle.std.proofs.Common.{arith}
use Rattle.detector.specs.Ewma.{made_of, allowed}
use Rattle.detector.proofs.EwmaDetector.with_options.Goals as goal

pub returns-then-not-is_finite : goal.returns-then-not-is_finite
unfolding made_of allowed
returns-then-not-is_finite c = grind (arith)

pub returns-then-not-is_finite-2 : goal.returns-then-not-is_finite-2
unfolding made_of allowed
returns-then-not-is_finite-2 c = grind (arith)

pub returns : goal.returns
unfolding made_of allowed
returns c = grind (arith)
