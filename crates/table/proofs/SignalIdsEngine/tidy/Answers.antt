-- `table::SignalIdsEngine::tidy` meets its contract. Assumes nothing.
use native.Mathlib.Omega.{arith}
use Rattle.table.proofs.Columns.{tidied}
use Rattle.table.proofs.SignalIdsEngine.tidy.Goals as goal

pub returns : goal.returns
returns c =
    tidied c.args.self.now (record { ids_64 = omega arith; signals_64 = omega arith; detectors_64 = omega arith }) c.clamp-n.result c.blank_signal.result c.clamp-n.ensures c.blank_signal.ensures
    (c.fill.ensures.after (λ y h. h)) (c.fill-2.ensures.after (λ y h. h)) (c.fill-3.ensures.after (λ y h. h))
