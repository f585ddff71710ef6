-- `conversion::nearest_i64` meets its contract: the float of a negative number is that of its size, negated. Assumes nothing.
use Rattle.std.proofs.Common.{ℕ, pos, ap, ◌∙◌}
use lib.IntN.{nat_abs}
use lib.Ieee.{binary32, neg, of_int}
use mir.Facts.{to_z-of_z}
use Rattle.conversion.proofs.Signed.{of_size}
use Rattle.conversion.proofs.nearest_i64.Goals as goal

pub returns-then-n-lt0 : goal.returns-then-n-lt0
returns-then-n-lt0 c =
    ap neg (c.nearest_u64-size.ensures ∙ ap (λ (m : ℕ). of_int binary32 (pos m)) (c.unsigned_abs.ensures.value ∙ ap nat_abs (to_z-of_z c.ranges.n)))
    ∙ of_size binary32 c.args.n (simp (to_z-of_z c.ranges.n) at c.if-n-lt0.true)
