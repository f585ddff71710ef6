-- A whole number of at most 2^24, or its negative, becomes the f32 that has exactly that value: nothing is cut, and nothing is rounded. Assumes nothing.
use Rattle.std.proofs.Common.{◌≡◌, ℕ, suc, ◌^◌, ◌≤◌, Bool, true, false, pos, negsuc, sym, ◌∙◌, subst, lt_of_le_of_lt, lit<}
use native.Mathlib.Nat.{eq_of_mul-eq-mul_right}
use lib.Ieee.{Float, nan, inf, fin, binary32, down, of_int}
use lib.Ieee.Fits.{down_pos}
use lib.Ieee.Exact.{HasValue}
use lib.Ieee.Back.{round_whole}
use contract.Lifetimes.{Lfts}
use Rattle.conversion.specs.Nearest.{to24}
use Rattle.conversion.proofs.Near.{nearest_whole}
use Rattle.conversion.proofs.nearest_u64.Reads as nearest-u64
use Rattle.conversion.proofs.nearest_i64.Reads as nearest-i64

-- the value of the f32 is the number itself, plus or minus
pub exact_whole : (n : ℕ) → n ≤ 2 ^ 24 → HasValue (of_int binary32 (pos n)) false n 1
unfolding of_int
exact_whole n h = round_whole binary32 false n h

pub exact_negative : (n : ℕ) → suc n ≤ 2 ^ 24 → HasValue (of_int binary32 (negsuc n)) true (suc n) 1
unfolding of_int
exact_negative n h = round_whole binary32 true (suc n) h

-- a float has one value
one_value : (x : Float) (s : Bool) (a b : ℕ) → HasValue x s a 1 → HasValue x s b 1 → a ≡ b
one_value nan s a b p q = absurd p
one_value (inf t) s a b p q = absurd p
one_value (fin t m e) s a b p q = eq_of_mul-eq-mul_right (down e) (down_pos e) a b (sym p.1 ∙ q.1)

-- so the number cut to 24 digits, which the f32 is the value of (`nearest_whole`), is the number
pub to24-same : (n : ℕ) → n ≤ 2 ^ 24 → to24 n ≡ n
to24-same n h = one_value (of_int binary32 (pos n)) false (to24 n) n (nearest_whole n (lt_of_le_of_lt h (lit< tt))).1 (exact_whole n h)

-- ---- what `nearest_u64` and `nearest_i64` answer

pub u64_exact : (κs : Lfts 0) (n : ℕ) (r : Float) (s : _) → nearest-u64.Learnt κs (n, tt) r s → n ≤ 2 ^ 24 → HasValue r false n 1
u64_exact κs n r s p h = subst (λ (x : Float). HasValue x false n 1) (sym p) (exact_whole n h)

pub i64_exact : (κs : Lfts 0) (n : ℕ) (r : Float) (s : _) → nearest-i64.Learnt κs (pos n, tt) r s → n ≤ 2 ^ 24 → HasValue r false n 1
i64_exact κs n r s p h = subst (λ (x : Float). HasValue x false n 1) (sym p) (exact_whole n h)

pub i64_exact_negative : (κs : Lfts 0) (n : ℕ) (r : Float) (s : _) → nearest-i64.Learnt κs (negsuc n, tt) r s → suc n ≤ 2 ^ 24 → HasValue r true (suc n) 1
i64_exact_negative κs n r s p h = subst (λ (x : Float). HasValue x true (suc n) 1) (sym p) (exact_negative n h)
