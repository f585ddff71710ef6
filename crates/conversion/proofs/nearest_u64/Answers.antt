-- `conversion::nearest_u64` meets its contract: `proofs/Whole.antt` says of a number shifted up by its leading zeros that the pattern is the nearest f32's. Assumes nothing.
use Rattle.std.proofs.Common.{◌≡◌, ℕ, ◌+◌, ◌-◌, ◌*◌, ◌%◌, ◌^◌, ◌≤◌, pos, sym, ap, ◌∙◌, le_trans, le_of_eq, mod-eq_of_lt, arith}
use lib.Count.{count_leading_zeros}
use lib.Ieee.{binary32, of_bits, of_int}
use lib.Ieee.Nearest.{closest}
use Rattle.conversion.proofs.Whole.{Top, top, pattern, digits_high, zero_pattern, no_nan}
use Rattle.conversion.proofs.nearest_u64.Goals as goal

-- what `significand` gives is the digits, and no more than 2 ^ 24
digits_is : (n r : ℕ) → Top n (count_leading_zeros 64 n) → r ≡ closest (n * 2 ^ count_leading_zeros 64 n % 2 ^ 64) (2 ^ 40)
    → r ≡ closest (n * 2 ^ count_leading_zeros 64 n) (2 ^ 40)
digits_is n r p e = e ∙ ap (λ (y : ℕ). closest y (2 ^ 40)) (mod-eq_of_lt p.2)

digits_le : (n r : ℕ) → Top n (count_leading_zeros 64 n) → r ≡ closest (n * 2 ^ count_leading_zeros 64 n % 2 ^ 64) (2 ^ 40) → r ≤ 2 ^ 24
digits_le n r p e = le_trans (le_of_eq (digits_is n r p e)) (digits_high n (count_leading_zeros 64 n) p.0 p.1 p.2)

pub returns-then-n-eq0 : goal.returns-then-n-eq0
returns-then-n-eq0 c = zero_pattern ∙ ap (λ (n : ℕ). of_int binary32 (pos n)) (sym c.if-n-eq0.true)

pub float_from_bits-result : goal.float_from_bits-result
float_from_bits-result c = let h = digits_le c.args.n c.significand-digits.result (top c.args.n (omega (arith, c.if-n-eq0.false)) c.ranges.n.fits) c.significand-digits.ensures in no_nan _ (omega arith)

pub returns : goal.returns
returns c =
    let n = c.args.n in
    let z = count_leading_zeros 64 n in
    let p = top n (omega (arith, c.if-n-eq0.false)) c.ranges.n.fits in
    ap (λ (x : ℕ). of_bits binary32 (x + c.significand-digits.result)) (mod-eq_of_lt (omega arith))
    ∙ ap (λ (x : ℕ). of_bits binary32 ((189 - z) * 2 ^ 23 + x)) (digits_is n c.significand-digits.result p c.significand-digits.ensures)
    ∙ pattern n z p.0 p.1 p.2
