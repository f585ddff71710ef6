-- `table::scale_ok` meets its contract: its two tests are conversion's `is_finite`. Assumes nothing.
use native.Mathlib.Omega.{arith}
use Rattle.table.specs.Table.{scale_ok}
use Rattle.table.proofs.scale_ok.Goals as goal

pub returns-then-is_finite : goal.returns-then-is_finite
unfolding scale_ok
returns-then-is_finite c = grind (arith)

pub returns-else-is_finite : goal.returns-else-is_finite
unfolding scale_ok
returns-else-is_finite c = grind (arith)
