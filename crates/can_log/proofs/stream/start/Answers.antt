-- `can_log::stream::start` meets its contract.
-- Assumes nothing.
use Rattle.can_log.specs.Output.{start_of}
use Rattle.can_log.proofs.Below.{by_new}
use Rattle.table.specs.declared.Defined.{Defined}
use mathlib.Core.Path.{ap}
use Rattle.can_log.specs.declared.stream.Log.{Log}
use Rattle.can_log.proofs.stream.start.Goals as goal

abbrev begun : Defined Unit → Log
begun made = record { count = 0; engine = made.engine }

pub returns : goal.returns
unfolding start_of
returns c = ap begun (by_new _ _ c.new-made.ensures)
