-- `table::SignalIdsEngine::remove` meets its contract. Assumes nothing.
use Rattle.std.proofs.Common.{arith}
use Rattle.table.proofs.Columns.{Sound, counted, row_out}
use Rattle.table.proofs.SignalIdsEngine.remove.Goals as goal

pub returns : goal.returns
returns c =
    let e = c.args.self.now in
    let s : Sound e = record { ids_64 = omega arith; signals_64 = omega arith; detectors_64 = omega arith } in
    let many = counted e c.requires.tidy in
    row_out e s c.requires.tidy c.args.p c.remove_at.ensures c.remove_at-2.ensures c.remove_at-3.ensures c.blank_signal.ensures (omega arith) (omega arith)
