-- `table::SignalIdsEngine::define_signals_batch` meets its contract. Assumes nothing.
use Rattle.std.proofs.Common.{List, take, length-take, take_all, sym, ap, ◌∙◌, arith}
use Rattle.conversion.specs.declared.SignalDefinition.{SignalDefinition}
use Rattle.table.specs.declared.SignalIdsEngine.{SignalIdsEngine}
use Rattle.table.specs.Table.{table_of, engine_of, appended_all, batch'}
use Rattle.table.proofs.Columns.{past_definition, blank_behind}
use Rattle.table.proofs.Accepted.{batch_accepted}
use Rattle.table.proofs.Answers.{accepted_told, accepted_is, append-turn, length-appended}
use Rattle.table.proofs.SignalIdsEngine.define_signals_batch.Goals as goal

pub place-requires-clause-room : goal.place-requires-clause-room
place-requires-clause-room c =
    let t = table_of c.args.self in
    let ds = c.args.defs in
    let told = accepted_told (batch' t ds c.args.n) c.in_default.ensures in
    let f = batch_accepted t ds c.args.n _ told.0 told.1 in
    let i = c.loop-d.d-index in
    omega (
      arith,
      f.room,
      ap (λ (o : SignalIdsEngine). o.count) c.loop-d.invariant,
      length-appended (take i (take c.args.n ds)) t,
      length-take i (take c.args.n ds),
      length-take c.args.n ds,
    )

pub place-requires-clause-tidy : goal.place-requires-clause-tidy
place-requires-clause-tidy c = blank_behind (appended_all (table_of c.args.self) (take c.loop-d.d-index (take c.args.n c.args.defs))) c.loop-d.invariant

pub loop-d-preserved : goal.loop-d-preserved
loop-d-preserved c =
    append-turn (table_of c.args.self) (take c.args.n c.args.defs) c.loop-d.d-index past_definition c.loop-d-test.true c.loop-d.invariant c.from.ensures c.place.ensures

pub returns : goal.returns
returns c =
    let t = table_of c.args.self in
    let ds = c.args.defs in
    let told = accepted_told (batch' t ds c.args.n) c.in_default.ensures in
    let f = batch_accepted t ds c.args.n _ told.0 told.1 in
    accepted_is c.args.self told.1
    (c.loop-d.invariant
    ∙ ap (λ (l : List SignalDefinition). engine_of (appended_all t l)) (take_all c.loop-d.d-index (take c.args.n ds) c.loop-d-test.false)
    ∙ ap engine_of (sym f.table))
