-- `host_c::detector_new` meets its contract: it is that of the call of its name. Assumes nothing.
use Rattle.host_c.proofs.detector_new.Goals as goal

pub returns : goal.returns
returns c = c.detector_new.ensures
