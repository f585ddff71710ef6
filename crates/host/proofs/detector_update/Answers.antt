-- `host::detector_update` meets its contract: the lent detector is the one that `update_in_place` left. Assumes nothing.
use mathlib.Core.Path.{ap, ◌∙◌}
use Rattle.host.specs.Answers.{answer_of}
use Rattle.host.proofs.detector_update.Goals as goal

pub returns : goal.returns
returns c = let done = c.update_in_place.ensures in (done.0, c.into.ensures ∙ ap answer_of done.1)
