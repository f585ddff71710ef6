-- `frames::process_frame` meets its contract: a frame is its header with its data bytes.
-- Assumes nothing.
use mathlib.Core.Path.{ap, ◌∙◌}
use Rattle.frames.specs.Frames.{processed_frame}
use Rattle.frames.proofs.process_frame.Goals as goal

pub returns : goal.returns
returns c = c.process_lent_frame.ensures ∙ ap (processed_frame c.args.engine) c.header.ensures
