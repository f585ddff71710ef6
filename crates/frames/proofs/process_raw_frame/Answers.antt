-- `frames::process_raw_frame` meets its contract: `process` of the identifier as it is, the standard type, the lent bytes and their length.
-- Assumes nothing.
use Rattle.frames.proofs.process_raw_frame.Goals as goal

pub returns : goal.returns
returns c = c.process.ensures
