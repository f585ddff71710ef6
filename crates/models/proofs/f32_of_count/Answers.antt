-- `models::f32_of_count` meets its contract.
-- Assumes nothing.
use mathlib.Core.Path.{sym, subst}
use Prim.Native.Nat.{ℕ, ◌≤◌}
use native.Mathlib.Nat.{lt_of_le_of_lt}
use lib.Ieee.{binary32, in_float}
use lib.IntN.{ℤ, pos}
use lib.Dec.{T, lit<, le→leb}
use mir.ValLaws.{to_z_pos}
use mir.Syntax.{w64}
use Rattle.models.proofs.f32_of_count.Goals as goal

-- an f32 holds every whole number up to 2 ^ 24
exact : (n : ℕ) → n ≤ 0x100_0000 → T (in_float binary32 (pos n))
unfolding in_float
exact n h = le→leb n 0x100_0000 h

pub int_to_float-result : goal.int_to_float-result
int_to_float-result c = subst (λ (z : ℤ). T (in_float binary32 z)) (sym (to_z_pos w64 c.args.n (lt_of_le_of_lt c.if-n-le-EXACT.true (lit< tt)))) (exact c.args.n c.if-n-le-EXACT.true)
