-- `framelog::turn` meets its contract.
-- Assumes nothing.
use Rattle.framelog.specs.Program.{more, at_end}
use Rattle.framelog.proofs.Turns.{got_as}
use Rattle.framelog.proofs.turn.Goals as goal

pub returns-in-Bytes : goal.returns-in-Bytes
returns-in-Bytes c = more c.if-st.true _ _ (got_as c.read_more.ensures c.in-Bytes.is) c.print.ensures

pub returns-in-End : goal.returns-in-End
returns-in-End c = at_end c.if-st.true _ (got_as c.read_more.ensures c.in-End.is) c.print-in-End.ensures
