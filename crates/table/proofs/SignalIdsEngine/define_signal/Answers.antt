-- `table::SignalIdsEngine::define_signal` meets its contract. Assumes nothing.
use Rattle.std.proofs.Common.{ℕ, sym, ap, ◌∙◌}
use Rattle.table.specs.Table.{Table, table_of, engine_of, define', placed_behind, added}
use Rattle.table.proofs.Columns.{table_engine, blank_behind}
use Rattle.table.proofs.Accepted.{define_accepted}
use Rattle.table.proofs.Answers.{accepted_told, accepted_is}
use Rattle.table.proofs.SignalIdsEngine.define_signal.Goals as goal

pub place-requires-clause-tidy : goal.place-requires-clause-tidy
place-requires-clause-tidy c = blank_behind (table_of c.args.self) c.tidy.ensures

pub returns : goal.returns
returns c =
    let t = table_of c.args.self in
    let d = c.args.d in
    let told = accepted_told (define' t d) c.in-Ok.ensures in
    let f = define_accepted t d c.in-Ok.slot told.0 told.1 in
    accepted_is c.args.self told.1
    (c.place.ensures
    ∙ ap (λ (limit : ℕ). engine_of (placed_behind limit (table_of c.tidy.new.self) d)) c.from.ensures
    ∙ ap (λ (u : Table). engine_of (added u d)) (ap table_of c.tidy.ensures ∙ table_engine t)
    ∙ ap engine_of (sym f.table))
