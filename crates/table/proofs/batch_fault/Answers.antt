-- `table::batch_fault` meets its contract. Assumes nothing.
use Rattle.std.proofs.Common.{sym, ap, ◌∙◌}
use lib.ListN.{drop_of_length-le}
use Rattle.std.proofs.lemmas.Result.{err_from_is_err_and}
use Rattle.table.specs.Table.{faults}
use Rattle.table.proofs.Columns.{past_definition}
use Rattle.table.proofs.Answers.{fault_here, fault_next}
use Rattle.table.proofs.batch_fault.Goals as goal

pub returns-in_err-refusal : goal.returns-in_err-refusal
returns-in_err-refusal c =
    let p = err_from_is_err_and c.from_residual.result c.from_residual.ensures.1 in
    let here = fault_here c.args.defs.now c.loop-d.d-index past_definition c.loop-d-test.true (sym c.refusal.ensures ∙ c.in_err-refusal.was) in
    rw (p.1, p.2) (sym (c.loop-d.invariant ∙ here))

pub loop-d-preserved : goal.loop-d-preserved
loop-d-preserved c =
    c.loop-d.invariant ∙ fault_next c.args.defs.now c.loop-d.d-index past_definition c.loop-d-test.true (sym c.refusal.ensures ∙ c.in_ok-refusal.was)

pub returns : goal.returns
returns c = sym (c.loop-d.invariant ∙ ap faults (drop_of_length-le c.args.defs.now {i = c.loop-d.d-index} c.loop-d-test.false))
