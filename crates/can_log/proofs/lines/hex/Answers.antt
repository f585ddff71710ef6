-- `can_log::lines::hex` meets its contract.
-- Assumes nothing.
use Rattle.can_log.specs.Lines.{hex8}
use Rattle.can_log.proofs.lines.hex.Goals as goal

pub returns : goal.returns
unfolding hex8
returns c = simp (c.digit.ensures, c.digit-2.ensures, c.digit-3.ensures, c.digit-4.ensures, c.digit-5.ensures, c.digit-6.ensures, c.digit-7.ensures, c.digit-8.ensures)
