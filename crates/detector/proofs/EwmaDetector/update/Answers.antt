-- `detector::EwmaDetector::update` meets its contract. Assumes nothing.
use Rattle.std.proofs.Common.{arith}
use Rattle.detector.specs.Ewma.{updated}
use Rattle.detector.proofs.EwmaDetector.update.Goals as goal

pub returns-then-not-is_finite : goal.returns-then-not-is_finite
unfolding updated
returns-then-not-is_finite c = grind (arith)

pub returns-then-self-eq0 : goal.returns-then-self-eq0
unfolding updated
returns-then-self-eq0 c = grind (arith)

pub returns-then-self : goal.returns-then-self
unfolding updated
returns-then-self c = grind (arith)

pub returns : goal.returns
unfolding updated
returns c = grind (arith)
