-- `table::SignalIdsEngine::remove_signal` meets its contract. Assumes nothing.
use Rattle.std.proofs.Common.{remove, sym, ap, ◌∙◌, arith}
use Rattle.table.specs.declared.SignalIdsEngine.{SignalIdsEngine}
use Rattle.table.specs.Table.{Table, live, table_of, engine_of, with_rows, defined, has}
use Rattle.table.proofs.Columns.{sound_of_lem, length-live, table_engine, blank_behind}
use Rattle.table.proofs.Answers.{Found, found, place_is, remove_none, remove_one, accepted_is}
use Rattle.table.proofs.SignalIdsEngine.remove_signal.Goals as goal

pub returns-in_default : goal.returns-in_default
returns-in_default c =
    let e = c.args.self in
    let at = place_is e (sound_of_lem _ c.well_formed.0) c.args.slot c.clamp.result c.clamp.ensures in
    c.refused.ensures ∙ ap (defined e) (sym (remove_none (table_of e) c.args.slot (c.in_default.ensures ∙ at)))

pub remove-requires-clause-live : goal.remove-requires-clause-live
remove-requires-clause-live c =
    let e = c.args.self in
    let s = sound_of_lem _ c.well_formed.0 in
    let f : Found (has c.args.slot) (live e) c.in-Some.p = found (has c.args.slot) (live e) c.in-Some.p (c.in-Some.ensures ∙ place_is e s c.args.slot c.clamp.result c.clamp.ensures) in
    let many = length-live e s c.clamp.result c.clamp.ensures in
    let count = ap (λ (o : SignalIdsEngine). o.count) c.tidy.ensures in
    (omega (arith, f.inside), omega arith)

pub remove-requires-clause-tidy : goal.remove-requires-clause-tidy
remove-requires-clause-tidy c = blank_behind (table_of c.args.self) c.tidy.ensures

pub returns : goal.returns
returns c =
    let e = c.args.self in
    let t = table_of e in
    let p = c.in-Some.p in
    let f = found (has c.args.slot) (live e) p (c.in-Some.ensures ∙ place_is e (sound_of_lem _ c.well_formed.0) c.args.slot c.clamp.result c.clamp.ensures) in
    accepted_is e (remove_one t c.args.slot p f)
    (c.remove.ensures ∙ ap (λ (u : Table). engine_of (with_rows u (remove u.rows p))) (ap table_of c.tidy.ensures ∙ table_engine t))
