-- `frames::multiplexor_of` meets its contract: the rows that the columns have left are left to search.
-- Assumes nothing.
use mathlib.Core.Path.{sym, ap, subst, ◌∙◌}
use mathlib.Core.List.{[], ◌∷◌}
use mathlib.Core.Logic.{inl, inr}
use native.Mathlib.Omega.{arith}
use lib.ListN.{length-append}
use Rattle.table.specs.declared.Entry.{Entry}
use Rattle.table.proofs.Columns.{Sound}
use Rattle.detector.proofs.Blank.{blank}
use Rattle.frames.specs.Frames.{numbered}
use Rattle.frames.proofs.Rows.{Visit}
use Rattle.frames.proofs.Search.{Seeking, seeking_from, number_is, selected_by, not_selected, taken_off, taken_hit, taken_next, none_taken}
use Rattle.frames.proofs.multiplexor_of.Goals as goal
use Rattle.frames.proofs.multiplexor_of.Goals.{else-applies-via-then-applies+else-definition, else-applies-via-else-applies}

pub loop-id-init : goal.loop-id-init
loop-id-init c =
    let v : Visit = record { engine = c.args.engine.now; n = c.args.n; key = c.args.key; payload = c.args.payload.now } in
    let whole = c.into_iter-id-iterator.ensures.into_iter_gives in
    seeking_from v c.args.first c.requires.0
    (ap (λ z. z.a.rest.now) whole ∙ ap (λ z. z.rest.now) c.zip-id-items.ensures.first ∙ c.iter.ensures.rest)
    (ap (λ z. z.b.rest.now) whole ∙ c.zip-id-items.ensures.second.0)

pub returns-then-definition : goal.returns-then-definition
returns-then-definition c =
    let v : Visit = record { engine = c.args.engine.now; n = c.args.n; key = c.args.key; payload = c.args.payload.now } in
    let columns : Sound v.engine = record { ids_64 = omega arith; signals_64 = omega arith; detectors_64 = omega arith } in
    c.ok.ensures.value
    ∙ number_is c.extract_signal_raw.result
    ∙ ap numbered c.extract_signal_raw.ensures
    ∙ taken_hit v columns (omega arith) (taken_off c.loop-id.invariant c.in-Some.ensures.steps)
    (selected_by c.args.key.id c.args.key.extended (record { id = c.in-Some.id.now; signal = c.in-Some.signal.now; detector = blank }) (sym c.applies.ensures ∙ c.if-applies.true) c.if-definition.true)

pub loop-id-preserved : goal.loop-id-preserved
loop-id-preserved c =
    let v : Visit = record { engine = c.args.engine.now; n = c.args.n; key = c.args.key; payload = c.args.payload.now } in
    let columns : Sound v.engine = record { ids_64 = omega arith; signals_64 = omega arith; detectors_64 = omega arith } in
    let row : Entry = record { id = c.in-Some.id.now; signal = c.in-Some.signal.now; detector = blank } in
    subst (Seeking v _ c.next.new.self.a.rest.now c.next.new.self.b.rest.now) (omega (arith, length-append c.loop-id.yielded ((c.in-Some.id, c.in-Some.signal) ∷ [])))
    (taken_next v columns (omega arith) (taken_off c.loop-id.invariant c.in-Some.ensures.steps)
    (elim c.else-applies.branch [
      | else-applies-via-then-applies+else-definition w ↦ selected_by c.args.key.id c.args.key.extended row (sym c.applies.ensures ∙ w.if-applies.true) w.if-definition.false
      | else-applies-via-else-applies w ↦ not_selected c.args.key.id c.args.key.extended row (sym c.applies.ensures ∙ w.if-applies.false)
    ]))

pub returns : goal.returns
returns c =
    let v : Visit = record { engine = c.args.engine.now; n = c.args.n; key = c.args.key; payload = c.args.payload.now } in
    let columns : Sound v.engine = record { ids_64 = omega arith; signals_64 = omega arith; detectors_64 = omega arith } in
    none_taken v columns (omega arith) c.loop-id.invariant
    (elim c.in-None.ensures.steps [
      | inl u ↦ inl u.1.0
      | inr u ↦ inr u.1.0
    ])
