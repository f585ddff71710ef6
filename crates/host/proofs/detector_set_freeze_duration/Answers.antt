-- `host::detector_set_freeze_duration` meets its contract. Assumes nothing.
use mathlib.Core.Path.{ap, ◌∙◌}
use Rattle.detector.specs.Answers.{Configured}
use Rattle.host.specs.Answers.{handed}
use Rattle.host.proofs.detector_set_freeze_duration.Goals as goal

pub returns-in-Ok : goal.returns-in-Ok
returns-in-Ok c =
    let d = c.args.detector.now in
    (ap (λ (m : Configured). (handed d m).detector) c.in-Ok.ensures, ap (λ (m : Configured). (handed d m).refusal) c.in-Ok.ensures)

pub returns-in-Err : goal.returns-in-Err
returns-in-Err c =
    let d = c.args.detector.now in
    (ap (λ (m : Configured). (handed d m).detector) c.in-Err.ensures, (c.from-in-Err.ensures ∙ c.from.ensures) ∙ ap (λ (m : Configured). (handed d m).refusal) c.in-Err.ensures)
