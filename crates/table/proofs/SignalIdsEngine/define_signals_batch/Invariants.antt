-- `table::SignalIdsEngine::define_signals_batch` meets its contract: self holds the table with the definitions so far appended. Assumes nothing.
use Rattle.std.proofs.Common.{◌≡◌, take}
use Rattle.table.specs.Table.{table_of, engine_of, appended_all}
use Rattle.table.proofs.SignalIdsEngine.define_signals_batch.Given as goal

abbrev pub invariant-loop-d : goal.invariant-loop-d
invariant-loop-d l = l.self ≡ engine_of (appended_all (table_of l.fn.self) (take l.d-index l.d-items))
