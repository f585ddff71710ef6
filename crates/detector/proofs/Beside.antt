-- Document 02, T-06, "mean and variance then stay": where folding a sample would make the mean infinite or a NaN, the new variance is not finite either, so
-- the variance would stay by its own guard too. This holds for every detector and every sample whose numbers are f32s, which `fits binary32` says; alpha may be
-- anything. Assumes nothing.
use mathlib.Core.Path.{◌≡◌, refl, sym, ap, ◌∙◌, subst}
use mathlib.Core.Logic.{◌⊎◌, inl, inr}
use Prim.Native.Nat.{ℕ, zero, suc, ◌+◌, ◌-◌, ◌*◌, ◌%◌, ◌^◌, ◌≤◌, ◌<◌}
use native.Mathlib.Nat.{le_trans, le_of_eq, le_of_lt, lt_of_lt_of_le, lt_of_not-le, not-le_of_lt, eq-zero-or-pos, add-le-add, add-mul, sub-add_cancel, zero-mul, mul-zero, mul-one}
use native.Mathlib.Nat.{mul_comm, mul_assoc, mul-mul-mul_comm, mul-pos, mul-le-mul, mul-le-mul_left, mul-le-mul_right, mul-lt-mul_of_pos_right, lt_of_mul-lt-mul_right}
use native.Mathlib.Omega.{arith}
use mathlib.Core.Bool.{Bool, true, false, true≢false, not, ◌&&◌, beq, cond}
use lib.IntN.{ℤ, pos, negsuc}
use lib.Dec.{T, leb, ltb, eqb, ltb→lt, lit<, lit≤}
use lib.Pow.{pow-add, pow_pos, pow_mono, shl_lt}
use lib.Ieee.{Float, nan, inf, fin, binary32, unlike, up, down, odd, units, round, sum, add, sub, mul, le, fits}
use lib.Ieee.Fits.{down_pos, round_is, and_l, and_r, mul-fits, sub-fits}
use lib.Ieee.Exact.{HasValue, round_exact}
use lib.Ieee.Order.{round_mono}
use lib.Ieee.Positive.{above_of_le, positive_of_value, values_of_le}
use lib.Ieee.Scale.{finite}
use Rattle.detector.specs.declared.EwmaDetector.{EwmaDetector}
use Rattle.detector.specs.Ewma.{zero32, one32, with_stats, new_mean, new_variance, kept_variance, one_more, rust_folded, folded, distance}
use Rattle.std.proofs.lemmas.Bool.{cases_lt, and_left, cond-false}
use Rattle.detector.proofs.Floats.{round_zero, times_bad, bad_times, plus_bad, minus_bad}

-- ---- the sign does not matter to the size of what is rounded, nor to whether it is finite
abbrev plain : Float → Float
plain nan = nan
plain (inf s) = inf false
plain (fin s m e) = fin false m e

plain_odd : (d : ℕ) (s : Bool) (q k l : ℕ) → plain (odd d s q k l) ≡ odd d false q k l
unfolding odd
plain_odd d s zero k l = refl
plain_odd d s (suc q) k l = refl

plain_units : (s : Bool) (q k : ℕ) → plain (units binary32 s q k) ≡ units binary32 false q k
unfolding units
plain_units s q k = go (ltb (q * 2 ^ k) (2 ^ 277))
  where
    go : (b : Bool) → plain (cond b (odd 25 s q k 149) (inf s)) ≡ cond b (odd 25 false q k 149) (inf false)
    go true = plain_odd 25 s q k 149
    go false = refl

plain_round : (s : Bool) (a c : ℕ) → plain (round binary32 s a c) ≡ round binary32 false a c
plain_round s a c = ap plain (round_is binary32 s a c) ∙ plain_units s _ _ ∙ sym (round_is binary32 false a c)

-- no finite value lies above an infinity
nothing_above : (x y : Float) → T (le (plain x) (plain y)) → finite x ≡ false → finite y ≡ false
unfolding le
nothing_above nan y h f = absurd h
nothing_above (inf s) nan h f = refl
nothing_above (inf s) (inf t) h f = refl
nothing_above (inf s) (fin t n d) h f = absurd h
nothing_above (fin s m e) y h f = absurd (true≢false f)

-- where a fraction overflows, a larger one does
larger_overflows : (s t : Bool) (a b c d : ℕ) → 0 < b → 0 < d → a * d ≤ c * b → finite (round binary32 s a b) ≡ false → finite (round binary32 t c d) ≡ false
larger_overflows s t a b c d B D h =
    nothing_above (round binary32 s a b) (round binary32 t c d)
    (subst (λ (x : Float). T (le x (plain (round binary32 t c d)))) (sym (plain_round s a b))
    (subst (λ (y : Float). T (le (round binary32 false a b) y)) (sym (plain_round t c d)) (round_mono binary32 a b c d B D h)))

-- what is at least a / b, which the format holds, is at least that once it is rounded
rounds_no_lower : (s r : Bool) (a b c d k : ℕ) (g : ℤ) → 0 < a → 0 < b → 0 < d → HasValue (round binary32 false a b) false a b → round binary32 s c d ≡ fin r k g → a * d ≤ c * b
    → a * down g ≤ k * up g * b
rounds_no_lower s r a b c d k g A B D v e h =
    let x = round binary32 false a b in
    let l : T (le x (fin false k g)) = subst (λ (y : Float). T (le x y)) (sym (plain_round s c d) ∙ ap plain e) (round_mono binary32 a b c d B D h) in
    let p = positive_of_value x a b v A in
    values_of_le x (fin false k g) a b (k * up g) (down g) p (above_of_le x (fin false k g) p l) v (refl, refl) l

-- ---- m * 2 ^ e is an f32: m is below 2 ^ 24, and the number is below 2 ^ 128
record Held (m : ℕ) (e : ℤ) : Type 0 where
  digits : m < 2 ^ 24
  range : m * up e < 2 ^ 128 * down e

-- of every f32 that is finite
held : (s : Bool) (m : ℕ) (e : ℤ) → T (fits binary32 (fin s m e)) → Held m e
unfolding fits
held s zero e t = record { digits = lit< tt; range = subst (λ (x : ℕ). x < 2 ^ 128 * down e) (sym (zero-mul (up e))) (mul-pos (pow_pos 128) (down_pos e)) }
held s (suc m) e t =
    let a : Bool = eqb (suc m % 2) 1 in
    let b : Bool = ltb (suc m) (2 ^ 24) in
    let c : Bool = leb (down e) (2 ^ 149) in
    let d : Bool = ltb (suc m * up e) (2 ^ 128 * down e) in
    record {
      digits = ltb→lt (suc m) (2 ^ 24) (and_r a b (and_l (a && b) c (and_l (a && b && c) d t)));
      range = ltb→lt (suc m * up e) (2 ^ 128 * down e) (and_r (a && b && c) d t);
    }

-- 2 ^ k is a multiple of 2 ^ j
multiple_of_power : (m j k : ℕ) → j ≤ k → m * 2 ^ k ≡ m * 2 ^ (k - j) * 2 ^ j
multiple_of_power m j k h = ap (λ (x : ℕ). m * 2 ^ x) (sym (sub-add_cancel h)) ∙ ap (λ (x : ℕ). m * x) (pow-add 2 (k - j) j) ∙ sym (mul_assoc m (2 ^ (k - j)) (2 ^ j))

-- a number below 2 ^ 24 over a power of two is at most any B from there on
tiny : (n B k : ℕ) → n < 2 ^ 24 → 2 ^ 24 ≤ B * 1 → n * 1 ≤ B * 2 ^ k
tiny n B k h l = le_trans (le_of_eq (mul-one n)) (le_trans (le_of_lt h) (le_trans l (mul-le-mul_left B (pow_pos k))))

-- the largest f32, 2 ^ 128 - 2 ^ 104
abbrev largest : ℕ
largest = 67108860 * 2 ^ 102

at_most_largest : (m : ℕ) (e : ℤ) → Held m e → m * up e ≤ largest * down e
at_most_largest m (negsuc k) h = tiny m largest (suc k) h.digits (lit≤ tt)
at_most_largest m (pos k) h =
    elim (cases_lt 104 k) [
      | inr l ↦ last m h.digits (mul-le-mul_left m (pow_mono l))
      | inl l ↦
          let e = multiple_of_power m 104 k (le_of_lt l) in
          last (m * 2 ^ (k - 104)) (lt_of_mul-lt-mul_right (2 ^ 104) (subst (λ (x : ℕ). x < 2 ^ 24 * 2 ^ 104) e h.range)) (le_of_eq e)
    ]
  where
    below : (M : ℕ) → M < 2 ^ 24 → M ≤ 16777215
    below M l = omega arith

    last : {x : ℕ} (M : ℕ) → M < 2 ^ 24 → x ≤ M * 2 ^ 104 → x ≤ largest * 1
    last M l h = le_trans h (le_trans (mul-le-mul_right (2 ^ 104) (below M l)) (lit≤ tt))

-- an f32 that is 1 or more is left as it is by rounding
rounds_to_itself : (n : ℕ) (d : ℤ) → Held n d → down d ≤ n * up d → HasValue (round binary32 false (n * up d) (down d)) false (n * up d) (down d)
rounds_to_itself n (pos k) h l =
    let e : n * 2 ^ (k + 149) ≡ n * 2 ^ k * 2 ^ 149 = ap (λ (x : ℕ). n * x) (pow-add 2 k 149) ∙ sym (mul_assoc n (2 ^ k) (2 ^ 149)) in
    round_exact binary32 false (n * 2 ^ k) 1 n (k + 149) (lit< tt) h.digits
    (subst (λ (x : ℕ). x < 2 ^ 277) (sym e) (mul-lt-mul_of_pos_right {n = 2 ^ 128 * 1} h.range (pow_pos 149)))
    (sym e ∙ sym (mul-one (n * 2 ^ (k + 149))))
rounds_to_itself n (negsuc k) h l =
    let few : suc k ≤ 149 = le_of_lt (lt_of_not-le (λ (g : 149 ≤ suc k). not-le_of_lt h.digits (le_trans (lit≤ tt) (le_trans (pow_mono g) (le_trans l (le_of_eq (mul-one n))))))) in
    let j = 149 - suc k in
    round_exact binary32 false (n * 1) (2 ^ suc k) n j (pow_pos (suc k)) h.digits
    (lt_of_lt_of_le (shl_lt 24 j h.digits) (pow_mono (room k)))
    (ap (λ (x : ℕ). x * 2 ^ 149) (mul-one n) ∙ multiple_of_power n (suc k) 149 few)
  where
    room : (i : ℕ) → 24 + (149 - suc i) ≤ 277
    room i = omega arith

-- ---- sums that are finite
-- a little more, which rounds to the largest f32
abbrev limit : ℕ
limit = 67108861 * 2 ^ 102

limit_finite : finite (round binary32 false limit 1) ≡ true
unfolding round
limit_finite = refl

-- nothing up to it overflows
up_to_limit : (s : Bool) (a b : ℕ) → 0 < b → a ≤ limit * b → finite (round binary32 s a b) ≡ false → ⊥
up_to_limit s a b B h f = true≢false (sym limit_finite ∙ larger_overflows s false a b limit 1 B (lit< tt) (le_trans (le_of_eq (mul-one a)) h) f)

-- what a sum rounds: the sizes' sum, or their difference
abbrev Joined : ℕ → ℕ → ℕ → Type 0
Joined a b x = (x ≡ a + b) ⊎ ((x ≡ a - b) ⊎ (x ≡ b - a))

-- so what holds of each of these, rounded, holds of the sum
sum_rounds : (P : Float → Type 0) (s : Bool) (a : ℕ) (t : Bool) (b c : ℕ) → ((r : Bool) (x : ℕ) → Joined a b x → P (round binary32 r x c)) → P (sum binary32 s a t b c)
unfolding sum
sum_rounds P s a t b c f = go (beq s t) (ltb a b)
  where
    go : (u v : Bool) → P (cond u (round binary32 s (a + b) c) (cond v (round binary32 t (b - a) c) (round binary32 (s && ltb b a) (a - b) c)))
    go true v = f s (a + b) (inl refl)
    go false true = f t (b - a) (inr (inr refl))
    go false false = f (s && ltb b a) (a - b) (inr (inl refl))

-- none is more than the sizes' sum
joined_most : (a b x : ℕ) → Joined a b x → x ≤ a + b
joined_most a b x (inl e) = omega arith
joined_most a b x (inr (inl e)) = omega arith
joined_most a b x (inr (inr e)) = omega arith

-- x ≤ B * c, so x * d ≤ B * (c * d)
over_common : (x B c d : ℕ) → x ≤ B * c → x * d ≤ B * (c * d)
over_common x B c d h = le_trans (mul-le-mul_right d h) (le_of_eq (mul_assoc B c d))

-- a sum is finite where its parts are at most A and B, and these together at most the limit
sum_finite : (s : Bool) (m : ℕ) (e : ℤ) (t : Bool) (n : ℕ) (d : ℤ) (A B : ℕ) → A + B ≤ limit → m * up e ≤ A * down e → n * up d ≤ B * down d
    → finite (add binary32 (fin s m e) (fin t n d)) ≡ false → ⊥
unfolding add
sum_finite s m e t n d A B l h k =
    let c = down e * down d in
    let second : n * up d * down e ≤ B * c = le_trans (over_common (n * up d) B (down d) (down e) k) (le_of_eq (ap (λ (x : ℕ). B * x) (mul_comm (down d) (down e)))) in
    let both = le_trans (add-le-add (over_common (m * up e) A (down e) (down d) h) second) (le_trans (le_of_eq (sym (add-mul A B c))) (mul-le-mul_right c l)) in
    sum_rounds (λ (y : Float). finite y ≡ false → ⊥) s (m * up e * down d) t (n * up d * down e) c
    (λ (r : Bool) (x : ℕ) (w : Joined (m * up e * down d) (n * up d * down e) x). up_to_limit r x c (mul-pos (down_pos e) (down_pos d)) (le_trans (joined_most _ _ x w) both))

-- ---- alpha * diff overflows, so alpha * (diff * diff) does: diff is above 1 then, so its square is no less
square_overflows_too : (s : Bool) (m : ℕ) (e : ℤ) (t : Bool) (n : ℕ) (d : ℤ) → Held m e → Held n d → finite (mul binary32 (fin s m e) (fin t n d)) ≡ false
    → finite (mul binary32 (fin s m e) (mul binary32 (fin t n d) (fin t n d))) ≡ false
unfolding mul
square_overflows_too s m e t n d hm hn f =
    elim (cases_lt (down d) (n * up d)) [
      | inr l ↦
          absurd
          (up_to_limit (unlike s t) (m * up e * (n * up d)) (down e * down d) (mul-pos (down_pos e) (down_pos d))
          (le_trans (mul-le-mul_left (m * up e) l)
          (le_trans (over_common (m * up e) largest (down e) (down d) (at_most_largest m e hm)) (mul-le-mul_right (down e * down d) (lit≤ tt))))
          f)
      | inl l ↦ go (le_of_lt l) (round binary32 (unlike t t) (n * up d * (n * up d)) (down d * down d)) refl
    ]
  where
    go : down d ≤ n * up d → (z : Float) → round binary32 (unlike t t) (n * up d * (n * up d)) (down d * down d) ≡ z → finite (mul binary32 (fin s m e) z) ≡ false
    go l nan q = refl
    go l (inf r) q = times_bad (fin s m e) (inf r) refl
    go l (fin r k g) q =
        let y = n * up d in
        let no_less : y * down g ≤ k * up g * down d =
        rounds_no_lower (unlike t t) r y (down d) (y * y) (down d * down d) k g (lt_of_lt_of_le (down_pos d) l) (down_pos d) (mul-pos (down_pos d) (down_pos d)) (rounds_to_itself n d hn l) q
        (le_trans (le_of_eq (sym (mul_assoc y (down d) (down d)))) (mul-le-mul_right (down d) (mul-le-mul_left y l))) in
        larger_overflows (unlike s t) (unlike s r) (m * up e * y) (down e * down d) (m * up e * (k * up g)) (down e * down g) (mul-pos (down_pos e) (down_pos d)) (mul-pos (down_pos e) (down_pos g))
        (le_trans (le_of_eq (mul-mul-mul_comm (m * up e) y (down e) (down g)))
        (le_trans (mul-le-mul_left (m * up e * down e) no_less) (le_of_eq (sym (mul-mul-mul_comm (m * up e) (k * up g) (down e) (down d))))))
        f

-- ---- a difference of 2 ^ 64 or more has a square that overflows
-- 2 ^ 64 is an f32, and 2 ^ 128 is too large for one
pow64_held : HasValue (round binary32 false (2 ^ 64) 1) false (2 ^ 64) 1
unfolding round
pow64_held = (refl, refl)

pow128_over : finite (round binary32 false (2 ^ 128) 1) ≡ false
unfolding round
pow128_over = refl

large_square_overflows : (r : Bool) (x c : ℕ) → 0 < c → 2 ^ 64 * c ≤ x → finite (mul binary32 (round binary32 r x c) (round binary32 r x c)) ≡ false
unfolding mul
large_square_overflows r x c C h = go (round binary32 r x c) refl
  where
    go : (y : Float) → round binary32 r x c ≡ y → finite (mul binary32 y y) ≡ false
    go nan q = refl
    go (inf s) q = refl
    go (fin s k g) q =
        let l : 2 ^ 64 * down g ≤ k * up g =
        le_trans (rounds_no_lower r s (2 ^ 64) 1 x c k g (lit< tt) (lit< tt) C pow64_held q (le_trans h (le_of_eq (sym (mul-one x))))) (le_of_eq (mul-one (k * up g))) in
        larger_overflows false (unlike s s) (2 ^ 128) 1 (k * up g * (k * up g)) (down g * down g) (lit< tt) (mul-pos (down_pos g) (down_pos g))
        (le_trans (le_of_eq (sym (mul-mul-mul_comm (2 ^ 64) (down g) (2 ^ 64) (down g)))) (le_trans (mul-le-mul l l) (le_of_eq (sym (mul-one (k * up g * (k * up g)))))))
        pow128_over

-- ---- the difference from a mean above 2 ^ 102 is zero, or 2 ^ 64 at least
-- both are multiples of 2 ^ 64
multiples : (i j x : ℕ) → Joined (i * 2 ^ 64) (j * 2 ^ 64) x → 0 < x → 2 ^ 64 ≤ x
multiples i j x (inl e) p = omega arith
multiples i j x (inr (inl e)) p = omega arith
multiples i j x (inr (inr e)) p = omega arith

-- or one of them is far below the other
far_below : (a b W x : ℕ) → a ≤ 2 ^ 24 * W → 2 ^ 38 * W ≤ b → Joined a b x → 0 < x → W ≤ x
far_below a b W x h k (inl e) p = omega arith
far_below a b W x h k (inr (inl e)) p = omega arith
far_below a b W x h k (inr (inr e)) p = omega arith

-- A is at most 2 ^ 88 * D, beside a mean B above 2 ^ 102
beside_large : (A D B x : ℕ) → A ≤ 2 ^ 24 * 2 ^ 64 * D → 2 ^ 102 * 1 < B → Joined (A * 1) (B * D) x → 0 < x → 2 ^ 64 * (D * 1) ≤ x
beside_large A D B x h k w p =
    le_trans (le_of_eq (ap (λ (z : ℕ). 2 ^ 64 * z) (mul-one D)))
    (far_below (A * 1) (B * D) (2 ^ 64 * D) x
    (le_trans (le_of_eq (mul-one A)) (le_trans h (le_of_eq (mul_assoc (2 ^ 24) (2 ^ 64) D))))
    (le_trans (le_of_eq (sym (mul_assoc (2 ^ 38) (2 ^ 64) D))) (mul-le-mul_right D (le_of_lt k)))
    w p)

-- n * 2 ^ d is the sample, and m * 2 ^ e the mean
zero_or_large : (n : ℕ) (d : ℤ) (m : ℕ) (e : ℤ) → n < 2 ^ 24 → m < 2 ^ 24 → 2 ^ 102 * down e < m * up e → (x : ℕ) → Joined (n * up d * down e) (m * up e * down d) x → 0 < x
    → 2 ^ 64 * (down d * down e) ≤ x
zero_or_large n d m (negsuc k) hn hm big x w p = absurd (not-le_of_lt big (tiny m (2 ^ 102) (suc k) hm (lit≤ tt)))
zero_or_large n (negsuc j) m (pos k) hn hm big x w p = beside_large (n * 1) (2 ^ suc j) (m * 2 ^ k) x (tiny n (2 ^ 24 * 2 ^ 64) (suc j) hn (lit≤ tt)) big w p
zero_or_large n (pos j) m (pos k) hn hm big x w p =
    elim (cases_lt 63 j) [
      | inr l ↦ beside_large (n * 2 ^ j) 1 (m * 2 ^ k) x (le_trans (mul-le-mul (le_of_lt hn) (pow_mono l)) (lit≤ tt)) big w p
      | inl l ↦
          let high : 64 ≤ k = lt_of_not-le (λ (g : k ≤ 63). not-le_of_lt big (le_trans (mul-le-mul (le_of_lt hm) (pow_mono g)) (lit≤ tt))) in
          multiples (n * 2 ^ (j - 64)) (m * 2 ^ (k - 64)) x
          (subst (λ (a : ℕ). Joined a (m * 2 ^ (k - 64) * 2 ^ 64) x) (mul-one (n * 2 ^ j) ∙ multiple_of_power n 64 j l)
          (subst (λ (b : ℕ). Joined (n * 2 ^ j * 1) b x) (mul-one (m * 2 ^ k) ∙ multiple_of_power m 64 k high) w))
          p
    ]

-- ---- y is the difference: where the mean u + a * y is not finite, a * (y * y) is not
abbrev Follows : Float → Float → Float → Type 0
Follows u a y = finite (add binary32 u (mul binary32 a y)) ≡ false → finite (mul binary32 a (mul binary32 y y)) ≡ false

-- where the difference or alpha is not finite
difference_bad : (u a y : Float) → finite y ≡ false → Follows u a y
difference_bad u a y f b = times_bad a (mul binary32 y y) (times_bad y y f)

alpha_bad : (u a y : Float) → finite a ≡ false → Follows u a y
alpha_bad u a y f b = bad_times a (mul binary32 y y) f

-- alpha times a zero is a zero
times_zero : (r : Bool) (n : ℕ) (d : ℤ) (q : Bool) → mul binary32 (fin r n d) (fin q 0 (pos 0)) ≡ fin (unlike r q) 0 (pos 0)
unfolding mul
times_zero r n d q = ap (λ (x : ℕ). round binary32 (unlike r q) x (down d * 1)) (mul-zero (n * up d)) ∙ round_zero (unlike r q) (down d * 1) (mul-pos (down_pos d) (lit< tt))

-- the mean is m * 2 ^ e, and alpha is n * 2 ^ d
module _ (s : Bool) (m : ℕ) (e : ℤ) (r : Bool) (n : ℕ) (d : ℤ) (mean : Held m e) (alpha : Held n d) where
  -- where the mean is 2 ^ 102 at most, only alpha * y can overflow
  small_mean : (y : Float) → m * up e ≤ 2 ^ 102 * down e → T (fits binary32 y) → Follows (fin s m e) (fin r n d) y
  small_mean nan l f b = difference_bad (fin s m e) (fin r n d) nan refl b
  small_mean (inf q) l f b = difference_bad (fin s m e) (fin r n d) (inf q) refl b
  small_mean (fin q k g) l f b = go (mul binary32 (fin r n d) (fin q k g)) refl
    where
      over : finite (mul binary32 (fin r n d) (fin q k g)) ≡ false → finite (mul binary32 (fin r n d) (mul binary32 (fin q k g) (fin q k g))) ≡ false
      over = square_overflows_too r n d q k g alpha (held q k g f)

      go : (p : Float) → mul binary32 (fin r n d) (fin q k g) ≡ p → finite (mul binary32 (fin r n d) (mul binary32 (fin q k g) (fin q k g))) ≡ false
      go nan i = over (ap finite i)
      go (inf o) i = over (ap finite i)
      go (fin o h j) i =
          absurd
          (sum_finite s m e o h j (2 ^ 102) largest (lit≤ tt) l
          (at_most_largest h j (held o h j (subst (λ (p : Float). T (fits binary32 p)) i (mul-fits binary32 (fin r n d) (fin q k g)))))
          (subst (λ (p : Float). finite (add binary32 (fin s m e) p) ≡ false) i b))

  -- where the difference is a zero, the mean stays, so it is finite
  zero_distance : (q : Bool) → Follows (fin s m e) (fin r n d) (fin q 0 (pos 0))
  zero_distance q b =
      absurd
      (sum_finite s m e (unlike r q) 0 (pos 0) largest 0 (lit≤ tt) (at_most_largest m e mean) (lit≤ tt)
      (subst (λ (p : Float). finite (add binary32 (fin s m e) p) ≡ false) (times_zero r n d q) b))

  -- where it is zero, or 2 ^ 64 at least
  large_distance : (q : Bool) (x c : ℕ) → 0 < c → (0 < x → 2 ^ 64 * c ≤ x) → Follows (fin s m e) (fin r n d) (round binary32 q x c)
  large_distance q x c C l =
      elim (eq-zero-or-pos x) [
        | inl z ↦ subst (Follows (fin s m e) (fin r n d)) (sym (ap (λ (k : ℕ). round binary32 q k c) z ∙ round_zero q c C)) (zero_distance q)
        | inr p ↦ λ b. times_bad (fin r n d) (mul binary32 (round binary32 q x c) (round binary32 q x c)) (large_square_overflows q x c C (l p))
      ]

  -- for every sample k * 2 ^ g
  any_distance : (q : Bool) (k : ℕ) (g : ℤ) → Held k g → Follows (fin s m e) (fin r n d) (sub binary32 (fin q k g) (fin s m e))
  unfolding sub
  any_distance q k g value =
      elim (cases_lt (2 ^ 102 * down e) (m * up e)) [
        | inr l ↦ small_mean (sub binary32 (fin q k g) (fin s m e)) l (sub-fits binary32 (fin q k g) (fin s m e))
        | inl l ↦
            sum_rounds (Follows (fin s m e) (fin r n d)) q (k * up g * down e) (not s) (m * up e * down g) (down g * down e)
            (λ (o : Bool) (x : ℕ) (w : Joined (k * up g * down e) (m * up e * down g) x).
            large_distance o x (down g * down e) (mul-pos (down_pos g) (down_pos e)) (zero_or_large k g m e value.digits mean.digits l x w))
      ]

-- for every mean, sample and alpha
follows : (u v a : Float) → T (fits binary32 u) → T (fits binary32 v) → T (fits binary32 a) → Follows u a (sub binary32 v u)
unfolding sub
follows nan v a fu fv fa = difference_bad nan a (sub binary32 v nan) (minus_bad v nan refl)
follows (inf s) v a fu fv fa = difference_bad (inf s) a (sub binary32 v (inf s)) (minus_bad v (inf s) refl)
follows (fin s m e) nan a fu fv fa = difference_bad (fin s m e) a nan refl
follows (fin s m e) (inf q) a fu fv fa = difference_bad (fin s m e) a (inf q) refl
follows (fin s m e) (fin q k g) nan fu fv fa = alpha_bad (fin s m e) nan (sub binary32 (fin q k g) (fin s m e)) refl
follows (fin s m e) (fin q k g) (inf r) fu fv fa = alpha_bad (fin s m e) (inf r) (sub binary32 (fin q k g) (fin s m e)) refl
follows (fin s m e) (fin q k g) (fin r n d) fu fv fa = any_distance s m e r n d (held s m e fu) (held r n d fa) q k g (held q k g fv)

-- A new mean that is infinite or a NaN comes with a new variance that is not finite, whatever alpha, the variance and the sample are.
pub bad_mean_bad_variance : (d : EwmaDetector) (value : Float) → T (fits binary32 d.mean) → T (fits binary32 d.alpha) → T (fits binary32 value)
    → finite (new_mean d (distance d value)) ≡ false → finite (new_variance d (distance d value)) ≡ false
bad_mean_bad_variance d value fm fa fv b =
    let y = distance d value in
    plus_bad (mul binary32 (sub binary32 one32 d.alpha) d.variance) (mul binary32 d.alpha (mul binary32 y y)) (follows d.mean value d.alpha fm fv fa b)

-- So the detector keeps the variance that it has.
pub variance_stays_anyway : (d : EwmaDetector) (value : Float) → T (fits binary32 d.mean) → T (fits binary32 d.alpha) → T (fits binary32 value)
    → finite (new_mean d (distance d value)) ≡ false → kept_variance d (new_variance d (distance d value)) ≡ d.variance
variance_stays_anyway d value fm fa fv b =
    let v = new_variance d (distance d value) in
    cond-false _ v d.variance (and_left _ (le zero32 v) (bad_mean_bad_variance d value fm fa fv b))

-- A fold that guards the mean and the variance each by itself is therefore the same fold.
pub guarded_apart : (d : EwmaDetector) (value : Float) → T (fits binary32 d.mean) → T (fits binary32 d.alpha) → T (fits binary32 value)
    → folded d (distance d value)
    ≡ with_stats d (cond (finite (new_mean d (distance d value))) (new_mean d (distance d value)) d.mean) (kept_variance d (new_variance d (distance d value))) (one_more d.count)
unfolding folded
guarded_apart d value fm fa fv = go (finite (new_mean d y)) refl
  where
    y : Float
    y = distance d value

    go : (b : Bool) → finite (new_mean d y) ≡ b
        → cond b (rust_folded d y) (with_stats d d.mean d.variance (one_more d.count))
        ≡ with_stats d (cond b (new_mean d y) d.mean) (kept_variance d (new_variance d y)) (one_more d.count)
    go true f = refl
    go false f = ap (λ (v : Float). with_stats d d.mean v (one_more d.count)) (sym (variance_stays_anyway d value fm fa fv f))
