-- `table::SignalIdsEngine::batch_ok` meets its contract. Assumes nothing.
use Rattle.std.proofs.Common.{◌≡◌, ◌+◌, ◌≤◌, length, sym, ap, ◌∙◌, arith}
use Rattle.table.specs.Table.{live, table_of, answer_of}
use Rattle.table.proofs.Columns.{Sound, length-live}
use Rattle.table.proofs.Answers.{batch_full, batch_new}
use Rattle.table.proofs.SignalIdsEngine.batch_ok.Goals as goal

pub returns-then-clamp-n : goal.returns-then-clamp-n
returns-then-clamp-n c =
    let e = c.args.self.now in
    let s : Sound e = record { ids_64 = omega arith; signals_64 = omega arith; detectors_64 = omega arith } in
    let many : length (live e) ≡ c.clamp.result = length-live e s c.clamp.result c.clamp.ensures in
    ap answer_of (sym (batch_full (table_of e) c.args.defs.now c.args.n (omega arith)))

pub returns : goal.returns
returns c =
    let e = c.args.self.now in
    let s : Sound e = record { ids_64 = omega arith; signals_64 = omega arith; detectors_64 = omega arith } in
    let many : length (live e) ≡ c.clamp.result = length-live e s c.clamp.result c.clamp.ensures in
    let room : length (live e) + c.args.n ≤ 64 = omega arith in
    ap answer_of
    (sym (batch_new (table_of e) c.args.defs.now c.args.n room (sym c.batch_fault.ensures ∙ c.in_ok-batch_fault.was) (sym c.slots_ok.ensures ∙ c.if-not-slots_ok.false)))
