-- `bits::above_lowest` meets its contract: the invariant: the bytes from k up have been read, and the rest is a law.
-- Assumes nothing.
use mathlib.Core.Path.{◌≡◌}
use Prim.Native.Nat.{◌-◌, ◌*◌, ◌≤◌}
use Rattle.bits.specs.Signal.{value, signal_bit}
use Rattle.bits.proofs.above_lowest.Given as goal

abbrev pub invariant-loop-k : goal.invariant-loop-k
invariant-loop-k l = (1 ≤ l.k) × (l.k ≤ l.n) × (l.v ≡ value (signal_bit l.data l.order (8 * l.at) (8 * l.n)) (8 * l.k) (8 * l.n - 8 * l.k))
