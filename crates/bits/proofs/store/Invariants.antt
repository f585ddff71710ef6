-- `bits::store` meets its contract: the invariant: the bits below i are stored, every other is as it was; all are bytes.
-- Assumes nothing.
use mathlib.Core.Path.{◌≡◌}
use Prim.Native.Nat.{ℕ, ◌-◌, ◌≤◌, ◌<◌}
use lib.ListN.{length, get_or}
use Rattle.bits.specs.Signal.{bit_at, new_bit}
use Rattle.bits.proofs.store.Given as goal

abbrev pub invariant-loop-i : goal.invariant-loop-i
invariant-loop-i l =
    (l.i ≤ l.len) × (length l.data ≡ length l.initial.data) × ((j : ℕ) → get_or l.data j 0 < 256) × ((q : ℕ) → bit_at l.data q ≡ new_bit l.initial.data l.order l.m l.len l.raw l.i q)

abbrev pub decreases-loop-i : goal.decreases-loop-i
decreases-loop-i l = l.len - l.i
