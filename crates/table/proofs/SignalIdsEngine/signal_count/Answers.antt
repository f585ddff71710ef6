-- `table::SignalIdsEngine::signal_count` meets its contract. Assumes nothing.
use Rattle.std.proofs.Common.{sym}
use Rattle.table.proofs.Columns.{sound_of_lem, length-live}
use Rattle.table.proofs.SignalIdsEngine.signal_count.Goals as goal

pub returns : goal.returns
returns c = sym (length-live c.args.self (sound_of_lem _ c.well_formed.0) _ c.clamp.ensures)
