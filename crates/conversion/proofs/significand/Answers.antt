-- `conversion::significand` meets its contract: the two masks are remainders, and the sum then rounds half to even. Assumes nothing.
use Rattle.std.proofs.Common.{ℕ, ◌+◌, ◌-◌, ◌/◌, ◌%◌, ◌^◌, ap, ◌∙◌}
use lib.Bits.{bit_and, and_mask}
use Rattle.conversion.proofs.Whole.{half_even}
use Rattle.conversion.proofs.significand.Goals as goal

pub returns : goal.returns
returns c =
    let y = c.args.placed in
    ap (λ (r : ℕ). y / 2 ^ 40 + (r + (2 ^ 39 - 1) + bit_and (y / 2 ^ 40) 1) / 2 ^ 40) (and_mask y 40)
    ∙ ap (λ (r : ℕ). y / 2 ^ 40 + (y % 2 ^ 40 + (2 ^ 39 - 1) + r) / 2 ^ 40) (and_mask (y / 2 ^ 40) 1)
    ∙ half_even y
