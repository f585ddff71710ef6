-- `table::SignalIdsEngine::slot_for` meets its contract. Assumes nothing.
use Rattle.std.proofs.Common.{◌≡◌, length, sym, ap, ◌∙◌, arith}
use Rattle.std.specs.Prelude.{Ok}
use Rattle.table.specs.Table.{live, table_of, answer_of, fault}
use Rattle.table.proofs.Columns.{Sound, length-live}
use Rattle.table.proofs.Answers.{define_full, define_spent}
use Rattle.table.proofs.SignalIdsEngine.slot_for.Goals as goal
use Rattle.table.proofs.SignalIdsEngine.slot_for.Goals.{then-clamp-ge64-via-then-clamp-ge64, then-clamp-ge64-via-else-clamp-ge64+then-self}

pub returns-then-clamp-ge64 : goal.returns-then-clamp-ge64
returns-then-clamp-ge64 c =
    let e = c.args.self.now in
    let s : Sound e = record { ids_64 = omega arith; signals_64 = omega arith; detectors_64 = omega arith } in
    let many : length (live e) ≡ c.clamp.result = length-live e s c.clamp.result c.clamp.ensures in
    let passes : fault c.args.d ≡ Ok tt = sym c.refusal.ensures ∙ c.in_ok-refusal.was in
    elim c.then-clamp-ge64.branch [
      | then-clamp-ge64-via-then-clamp-ge64 w ↦ ap answer_of (sym (define_full (table_of e) c.args.d passes (omega arith)))
      | then-clamp-ge64-via-else-clamp-ge64+then-self w ↦ ap answer_of (sym (define_spent (table_of e) c.args.d passes (omega arith) (omega arith)))
    ]
