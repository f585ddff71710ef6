-- `log::advance` meets its contract: after each turn what was written, with what is to come, is what the definition says of all the bytes.
-- Assumes nothing.
use Prim.Native.Nat.{◌-◌}
use lib.ListN.{length}
use Rattle.can_log.proofs.Runs.{Turned}
use Rattle.can_log.proofs.stream.advance.Given as goal

abbrev pub invariant-loop-out : goal.invariant-loop-out
invariant-loop-out l = Turned l.s l.ended l.initial.out l.initial.log l.out l.log l.used l.end

abbrev pub decreases-loop-out : goal.decreases-loop-out
decreases-loop-out l = length l.s - l.used
