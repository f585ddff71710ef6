-- `replay::Machine::lines` is safe and ends.
-- Assumes nothing.
use Rattle.std.specs.Prelude.{◌-◌, ◌≤◌, length}
use Rattle.replay.proofs.Machine.lines.Given as goal

abbrev pub invariant-loop-k : goal.invariant-loop-k
invariant-loop-k g l = l.at ≤ length l.bytes

abbrev pub decreases-loop-k : goal.decreases-loop-k
decreases-loop-k g l = length l.bytes - l.at
