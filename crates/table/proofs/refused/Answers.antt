-- `table::refused` meets its contract. Assumes nothing.
use Rattle.std.proofs.Common.{refl}
use Rattle.table.proofs.refused.Goals as goal

pub returns : goal.returns
returns g c = refl
