-- `table::SignalIdsEngine::next_slot` meets its contract. Assumes nothing.
use Rattle.std.proofs.Common.{refl}
use Rattle.table.proofs.SignalIdsEngine.next_slot.Goals as goal

pub returns : goal.returns
returns c = refl
