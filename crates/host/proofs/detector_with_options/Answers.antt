-- `host::detector_with_options` meets its contract. Assumes nothing.
use mathlib.Core.Path.{ap, ◌∙◌}
use Rattle.detector.specs.Ewma.{idle}
use Rattle.host.specs.Answers.{handed}
use Rattle.host.proofs.detector_with_options.Goals as goal

pub returns : goal.returns
returns c = c.handed_over.ensures ∙ ap (handed idle) c.with_options.ensures
