-- A count's part of a total that is no less than it is between 0 and 1: rounding keeps order, and 0 and 1 are f32s. Assumes nothing.
use mathlib.Core.Path.{◌≡◌, refl, sym, ap, ap₂, ◌∙◌, subst}
use mathlib.Core.Bool.{Bool, false, cond}
use Prim.Native.Nat.{ℕ, zero, suc, ◌*◌, ◌^◌, ◌≤◌, ◌<◌, zero-le}
use native.Mathlib.Nat.{not-suc-le-zero, le_trans, le_of_eq, le_of_lt, lt_of_le_of_lt, lt_of_lt_of_le, mul-one, one-mul, mul_comm, mul_assoc, mul-pos, zero-lt-suc, zero-mul}
use native.Mathlib.Decide.{ℕ_discrete}
use native.Mathlib.Omega.{arith}
use borrow.Author.Tests.{eq-eqb, ne_eqb}
use lib.Dec.{T, eqb}
use lib.IntN.{pos}
use lib.Ieee.{Float, nan, inf, fin, binary32, unlike, up, down, round, of_int, of_bits, div, le}
use lib.Ieee.Fits.{down_pos}
use lib.Ieee.Exact.{HasValue}
use lib.Ieee.Order.{round_mono}
use lib.Ieee.Scale.{round_same}
use lib.Ieee.Positive.{positive, positive_of_value, value_pos, values_of_le, between}
use Rattle.conversion.specs.Nearest.{to24}
use Rattle.conversion.proofs.Near.{nearest_whole}
use Rattle.models.specs.Counts.{ratio, IsPart}

-- the quotient of two f32s that are whole numbers
div_is : (x y : Float) (a b : ℕ) → HasValue x false a 1 → HasValue y false b 1 → 0 < b → div binary32 x y ≡ round binary32 false a b
unfolding div
div_is nan y a b p q h = absurd p
div_is (inf s) y a b p q h = absurd p
div_is (fin s m e) nan a b p q h = absurd q
div_is (fin s m e) (inf t) a b p q h = absurd q
div_is (fin s m e) (fin t n d) a b p q h =
    let top : m * up e ≡ a * down e = sym (mul-one (m * up e)) ∙ p.1 in
    let bottom : n * up d ≡ b * down d = sym (mul-one (n * up d)) ∙ q.1 in
    let some : 0 < n * up d * down e = mul-pos (subst (λ (z : ℕ). 0 < z) (sym bottom) (mul-pos h (down_pos d))) (down_pos e) in
    let whole : (n ≡ 0) → ⊥ = λ z. not-suc-le-zero (le_trans some (le_of_eq (ap (λ (k : ℕ). k * up d * down e) z ∙ ap (λ (k : ℕ). k * down e) (zero-mul (up d)) ∙ zero-mul (down e)))) in
    ap (λ (b : Bool). cond b (cond (eqb m 0) nan (inf (unlike s t))) (round binary32 (unlike s t) (m * up e * down d) (n * up d * down e))) (ne_eqb n 0 whole)
    ∙ ap₂ (λ (u v : Bool). round binary32 (unlike u v) (m * up e * down d) (n * up d * down e)) p.0 q.0
    ∙ round_same binary32 false (m * up e * down d) (n * up d * down e) a b some h
    (ap (λ (z : ℕ). z * down d * b) top ∙ mul_assoc (a * down e) (down d) b ∙ mul_assoc a (down e) (down d * b)
    ∙ ap (λ (z : ℕ). a * z) (mul_comm (down e) (down d * b) ∙ ap (λ (z : ℕ). z * down e) (mul_comm (down d) b ∙ sym bottom)))

-- ---- whole numbers as f32s

abbrev f32 : ℕ → Float
f32 n = of_int binary32 (pos n)

in_order : (a b : ℕ) → a ≤ b → T (le (f32 a) (f32 b))
unfolding of_int
in_order a b h = round_mono binary32 a 1 b 1 (zero-lt-suc 0) (zero-lt-suc 0) (le_trans (le_of_eq (mul-one a)) (le_trans h (le_of_eq (sym (mul-one b)))))

one_positive : T (positive (f32 1))
unfolding of_int
one_positive = tt

most_positive : T (positive (f32 (2 ^ 64)))
unfolding of_int
most_positive = tt

above_zero : (n : ℕ) → 0 < n → n < 2 ^ 64 → T (positive (f32 n))
above_zero n a b = between (f32 1) (f32 n) (f32 (2 ^ 64)) one_positive most_positive (in_order 1 n a) (in_order n (2 ^ 64) (le_of_lt b))

value : (n : ℕ) → n < 2 ^ 64 → HasValue (f32 n) false (to24 n) 1
value n h = (nearest_whole n h).1

-- cut to 24 digits they keep their order
cut_in_order : (a b : ℕ) → a ≤ b → 0 < b → b < 2 ^ 64 → to24 a ≤ to24 b
cut_in_order a b h some most = go (to24 a) refl
  where
    go : (k : ℕ) → to24 a ≡ k → to24 a ≤ to24 b
    go zero e = le_trans (le_of_eq e) zero-le
    go (suc k) e =
        let va = value a (lt_of_le_of_lt h most) in
        let vb = value b most in
        let pa = positive_of_value (f32 a) (to24 a) 1 va (lt_of_lt_of_le (zero-lt-suc k) (le_of_eq (sym e))) in
        le_trans (le_of_eq (sym (mul-one (to24 a)))) (le_trans (values_of_le (f32 a) (f32 b) (to24 a) 1 (to24 b) 1 pa (above_zero b some most) va vb (in_order a b h)) (le_of_eq (mul-one (to24 b))))

zero_is : round binary32 false 0 1 ≡ of_bits binary32 0
unfolding round of_bits
zero_is = refl

one_is : round binary32 false 1 1 ≡ of_bits binary32 0x3F80_0000
unfolding round of_bits
one_is = refl

zero_part : IsPart (of_bits binary32 0)
unfolding of_bits le
zero_part = (tt, tt)

quotient : (a b : ℕ) → a ≤ b → 0 < b → b < 2 ^ 64 → IsPart (div binary32 (f32 a) (f32 b))
quotient a b h some most =
    let va = value a (lt_of_le_of_lt h most) in
    let vb = value b most in
    let pos : 0 < to24 b = value_pos (f32 b) (to24 b) 1 (above_zero b some most) (zero-lt-suc 0) vb in
    let is = div_is (f32 a) (f32 b) (to24 a) (to24 b) va vb pos in
    let low = round_mono binary32 0 1 (to24 a) (to24 b) (zero-lt-suc 0) pos (le_trans (le_of_eq (zero-mul (to24 b))) zero-le) in
    let high = round_mono binary32 (to24 a) (to24 b) 1 1 pos (zero-lt-suc 0) (le_trans (le_of_eq (mul-one (to24 a))) (le_trans (cut_in_order a b h some most) (le_of_eq (sym (one-mul (to24 b)))))) in (
      subst (λ (z : Float). T (le z (div binary32 (f32 a) (f32 b)))) zero_is (subst (λ (z : Float). T (le (round binary32 false 0 1) z)) (sym is) low),
      subst (λ (z : Float). T (le (div binary32 (f32 a) (f32 b)) z)) one_is (subst (λ (z : Float). T (le z (round binary32 false 1 1))) (sym is) high),
    )

pub ratio_between : (count total : ℕ) → count ≤ total → total < 2 ^ 64 → IsPart (ratio count total)
unfolding ratio
ratio_between count total h most = go (ℕ_discrete total 0)
  where
    go : Dec (total ≡ 0) → IsPart (cond (eqb total 0) (of_bits binary32 0) (div binary32 (f32 count) (f32 total)))
    go (yes e) = subst (λ (b : Bool). IsPart (cond b (of_bits binary32 0) (div binary32 (f32 count) (f32 total)))) (sym (eq-eqb total 0 e)) zero_part
    go (no n) =
        subst (λ (b : Bool). IsPart (cond b (of_bits binary32 0) (div binary32 (f32 count) (f32 total)))) (sym (ne_eqb total 0 n)) (quotient count total h (omega (arith, n)) most)
