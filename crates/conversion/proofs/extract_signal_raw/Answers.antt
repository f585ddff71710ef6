-- `conversion::extract_signal_raw` meets its contract: the answer is that of `bits`. Assumes nothing.
use Rattle.conversion.specs.Extract.{raw_signal}
use Rattle.conversion.proofs.extract_signal_raw.Goals as goal

pub returns : goal.returns
unfolding raw_signal
returns c = c.extract_raw.ensures
