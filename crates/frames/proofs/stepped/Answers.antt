-- `frames::stepped` meets its contract.
-- Assumes nothing.
use mathlib.Core.Path.{sym, ap, ◌∙◌}
use lib.ListN.{length}
use Rattle.conversion.specs.Extract.{extracted_means}
use Rattle.frames.proofs.Steps.{step_over, step_refused, step_value}
use Rattle.frames.proofs.stepped.Goals as goal

pub returns-then-not-is_met : goal.returns-then-not-is_met
returns-then-not-is_met c =
    let a = c.args in
    sym (step_over a.payload.now (length a.payload.now) a.multiplexor a.definition a.detector (sym c.is_met.ensures ∙ c.if-not-is_met.true))

pub returns-in_default : goal.returns-in_default
returns-in_default c =
    let a = c.args in
    step_refused a.payload.now (length a.payload.now) a.multiplexor a.definition a.detector c.unwrap_err.result
    (sym c.is_met.ensures ∙ c.if-not-is_met.false)
    (ap extracted_means (sym c.unwrap_err.ensures) ∙ c.extract_signal-answer.ensures)

pub returns : goal.returns
returns c =
    let a = c.args in
    step_value a.payload.now (length a.payload.now) a.multiplexor a.definition a.detector _ c.update-updated.result c.outcome_of.result
    (sym c.is_met.ensures ∙ c.if-not-is_met.false)
    (ap extracted_means (sym c.in-Ok.is) ∙ c.extract_signal-answer.ensures)
    c.update-updated.ensures
    c.outcome_of.ensures
