-- `host::detector_new` meets its contract. Assumes nothing.
use mathlib.Core.Path.{ap, ◌∙◌}
use Rattle.detector.specs.Ewma.{idle}
use Rattle.host.specs.Answers.{handed}
use Rattle.host.proofs.detector_new.Goals as goal

pub returns : goal.returns
returns c = c.handed_over.ensures ∙ ap (handed idle) c.new.ensures
