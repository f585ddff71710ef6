-- `host::detector_recalibrate` meets its contract: the detector that `recalibrate` makes is stored over the lent one. Assumes nothing.
use Rattle.host.proofs.detector_recalibrate.Goals as goal

pub returns : goal.returns
returns c = c.recalibrate.ensures
