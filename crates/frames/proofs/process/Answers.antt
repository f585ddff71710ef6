-- `frames::process` meets its contract: the rows before `i` are moved and reported (`Moving`); each turn is a lemma of Moves.
-- Assumes nothing.
use mathlib.Core.Path.{sym, ◌∙◌}
use native.Mathlib.Omega.{arith}
use lib.ListN.{take}
use Rattle.table.proofs.Columns.{Sound, sound_of_lem}
use Rattle.frames.proofs.Rows.{Visit, first_named}
use Rattle.frames.proofs.Search.{search_from}
use Rattle.frames.proofs.Moves.{moving_from, few_reports, other_row, own_row, moving_ends, told}
use Rattle.frames.proofs.Payload.{cut_frame}
use Rattle.frames.proofs.process.Goals as goal

pub loop-i-init : goal.loop-i-init
loop-i-init c =
    let s = take c.min.result c.args.bytes.now in
    let v : Visit = record { engine = c.args.engine; n = c.clamp-n.result; key = c.args.key; payload = s } in
    let columns : Sound c.args.engine = sound_of_lem _ c.well_formed.0 in
    let first = first_named v.key.id v.n c.unwrap_or-first.result v.engine.ids (omega (arith, columns.ids_64)) c.first_row.ensures c.unwrap_or-first.ensures in
    moving_from v columns (omega arith) c.multiplexor_of-multiplexor.result c.no_reports.ensures c.unwrap_or-first.result first.0 first.1

pub loop-i-preserved-then-not-applies : goal.loop-i-preserved-then-not-applies
loop-i-preserved-then-not-applies c =
    let s = take c.min.result c.args.bytes.now in
    let v : Visit = record { engine = c.args.engine; n = c.clamp-n.result; key = c.args.key; payload = s } in
    other_row v (sound_of_lem _ c.well_formed.0) (omega arith) c.multiplexor_of-multiplexor.result c.loop-i.invariant c.loop-i-test.true (sym c.applies.ensures ∙ c.if-not-applies.true)

pub add-requires : goal.add-requires
add-requires c =
    let s = take c.min.result c.args.bytes.now in
    let v : Visit = record { engine = c.args.engine; n = c.clamp-n.result; key = c.args.key; payload = s } in
    let m = c.multiplexor_of-multiplexor.result in
    (told v m c.loop-i.i, few_reports v (sound_of_lem _ c.well_formed.0) (omega arith) m c.loop-i.invariant c.loop-i-test.true, c.loop-i.invariant.result)

pub loop-i-preserved : goal.loop-i-preserved
loop-i-preserved c =
    let s = take c.min.result c.args.bytes.now in
    let v : Visit = record { engine = c.args.engine; n = c.clamp-n.result; key = c.args.key; payload = s } in
    let m = c.multiplexor_of-multiplexor.result in
    let few = few_reports v (sound_of_lem _ c.well_formed.0) (omega arith) m c.loop-i.invariant c.loop-i-test.true in
    let turn = own_row v (sound_of_lem _ c.well_formed.0) (omega arith) m c.loop-i.invariant c.loop-i-test.true (sym c.applies.ensures ∙ c.if-not-applies.false) c.stepped-step.result c.stepped-step.ensures
    (c.add.ensures (told v m c.loop-i.i) few c.loop-i.invariant.result) in
    record { inside = turn.inside; engine = turn.engine; result = turn.result }

pub returns : goal.returns
returns c =
    let s = take c.min.result c.args.bytes.now in
    let v : Visit = record { engine = c.args.engine; n = c.clamp-n.result; key = c.args.key; payload = s } in
    let columns : Sound c.args.engine = sound_of_lem _ c.well_formed.0 in
    let first = first_named v.key.id v.n c.unwrap_or-first.result v.engine.ids (omega (arith, columns.ids_64)) c.first_row.ensures c.unwrap_or-first.ensures in
    let m = c.multiplexor_of-multiplexor.result in
    moving_ends v columns (omega arith) m c.loop-i.invariant (omega arith) c.clamp-n.ensures
    (c.multiplexor_of-multiplexor.ensures ∙ sym (search_from v columns (omega arith) c.unwrap_or-first.result first.0 first.1))
    ∙ cut_frame c.args.bytes.now c.args.data_len c.min.result c.min.ensures v.engine v.key.id v.key.extended
