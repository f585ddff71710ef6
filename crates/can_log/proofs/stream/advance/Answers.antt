-- `log::advance` meets its contract: after each turn what was written, with what is to come, is what the definition says of all the bytes.
-- Assumes nothing.
use mathlib.Core.Path.{◌∙◌, sym, ap}
use Rattle.std.specs.Prelude.{Option, Ok}
use Rattle.can_log.specs.declared.decode.Item.{Item}
use native.Mathlib.Omega.{arith}
use Rattle.can_log.proofs.Below.{by_frame}
use Rattle.can_log.proofs.Steps.{told}
use Rattle.can_log.proofs.Runs.{found, full, waits, stops, call_counts, call_more, call_less, call_last, frame_used, frame_counts, frame_more}
use Rattle.can_log.proofs.stream.advance.Goals as goal

pub returns-in-Ok-None : goal.returns-in-Ok-None
returns-in-Ok-None c =
    waits c.loop-out.invariant c.loop-out-test.true _ c.item_at_front.ensures (c.in-Ok-None.is ∙ ap (λ (x : Option Item). Ok x) c.in-Ok-None.field-0-is) c.on_wait.ensures

pub returns-in-Err : goal.returns-in-Err
returns-in-Err c =
    stops c.loop-out.invariant c.loop-out-test.true _ c.item_at_front.ensures _ c.in-Err.is _ c.from.ensures c.on_stop.ensures

pub on_request-r-requires : goal.on_request-r-requires
on_request-r-requires c =
    (call_counts c.loop-out.invariant c.loop-out-test.true _ c.item_at_front.ensures _ (found c.in-Ok-Some-Call.is c.in-Ok-Some-Call.field-0-is c.in-Ok-Some-Call.field-0-0-is), omega arith)

pub returns-then-not-goes_on : goal.returns-then-not-goes_on
returns-then-not-goes_on c =
    told c.answer.ensures (call_last c.loop-out.invariant c.loop-out-test.true _ c.item_at_front.ensures _ (found c.in-Ok-Some-Call.is c.in-Ok-Some-Call.field-0-is c.in-Ok-Some-Call.field-0-0-is) c.on_request-r.ensures (sym c.goes_on.ensures ∙ c.if-not-goes_on.true))

pub loop-out-smaller-else-not-goes_on : goal.loop-out-smaller-else-not-goes_on
loop-out-smaller-else-not-goes_on c =
    call_less c.loop-out.invariant c.loop-out-test.true _ c.item_at_front.ensures _ (found c.in-Ok-Some-Call.is c.in-Ok-Some-Call.field-0-is c.in-Ok-Some-Call.field-0-0-is) c.on_request-r.ensures (sym c.goes_on.ensures ∙ c.if-not-goes_on.false)

pub loop-out-preserved-else-not-goes_on : goal.loop-out-preserved-else-not-goes_on
loop-out-preserved-else-not-goes_on c =
    call_more c.loop-out.invariant c.loop-out-test.true _ c.item_at_front.ensures _ (found c.in-Ok-Some-Call.is c.in-Ok-Some-Call.field-0-is c.in-Ok-Some-Call.field-0-0-is) c.on_request-r.ensures (sym c.goes_on.ensures ∙ c.if-not-goes_on.false)

pub slice_bounds-process_lent_frame-end : goal.slice_bounds-process_lent_frame-end
slice_bounds-process_lent_frame-end c =
    omega (arith, frame_used c.loop-out.invariant c.loop-out-test.true _ c.item_at_front.ensures _ (found c.in-Ok-Some-Frame.is c.in-Ok-Some-Frame.field-0-is c.in-Ok-Some-Frame.field-0-0-is) _ c.data_size.ensures)

pub overflow_add-log : goal.overflow_add-log
overflow_add-log c =
    omega (arith, frame_counts c.loop-out.invariant c.loop-out-test.true _ c.item_at_front.ensures _ (found c.in-Ok-Some-Frame.is c.in-Ok-Some-Frame.field-0-is c.in-Ok-Some-Frame.field-0-0-is) _ c.data_size.ensures)

pub loop-out-preserved : goal.loop-out-preserved
loop-out-preserved c =
    let done = c.process_lent_frame-done in
    frame_more c.loop-out.invariant c.loop-out-test.true _ c.item_at_front.ensures _ (found c.in-Ok-Some-Frame.is c.in-Ok-Some-Frame.field-0-is c.in-Ok-Some-Frame.field-0-0-is) _ c.data_size.ensures done.result (by_frame done.result _ _ done.ensures) c.put_anomalies-end.ensures

pub returns : goal.returns
returns c = told c.answer-2.ensures (full c.loop-out.invariant c.loop-out-test.false)
