-- `detector::score_at` meets its contract. Assumes nothing.
use Rattle.std.proofs.Common.{arith}
use Rattle.detector.specs.Ewma.{score_at}
use Rattle.detector.proofs.score_at.Goals as goal

pub returns-then-is_finite : goal.returns-then-is_finite
unfolding score_at
returns-then-is_finite c = grind (arith)

pub returns-else-is_finite : goal.returns-else-is_finite
unfolding score_at
returns-else-is_finite c = grind (arith)

pub returns-then-a : goal.returns-then-a
unfolding score_at
returns-then-a c = grind (arith)

pub returns-else-a : goal.returns-else-a
unfolding score_at
returns-else-a c = grind (arith)
