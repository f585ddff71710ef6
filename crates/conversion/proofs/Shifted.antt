-- A raw number of L bits shifted to the top of 64 bits, read as two's complement and shifted back, is its two's complement of L bits.
-- Assumes nothing.
use Rattle.std.proofs.Common.{◌≡◌, ℕ, suc, ◌+◌, ◌-◌, ◌*◌, ◌/◌, ◌%◌, ◌^◌, ◌<◌, ◌≤◌, Bool, ℤ, pos, negsuc, sym, ap, ◌∙◌, arith, w64, to_z, le-ltb, lt-ltb}
use Rattle.std.proofs.lemmas.Nat.{div-mul-add}
use native.Mathlib.Nat.{add-mul, mul-lt-mul_of_pos_right, mul-le-mul_right}
use native.Mathlib.Decide.{dec_lt}
use lib.Pow.{pow-add, pow_pos, shl-shr, shl_exact}
use lib.Signed.{shr_z}
use mir.Val.{sel}
use Rattle.conversion.specs.Whole.{Raw, signed_whole}
use Rattle.conversion.proofs.Signed.{low_is, high_is}

-- what is left of the complement, shifted back
rest : (p h raw : ℕ) → 0 < p → raw < h → (h * p - suc (raw * p)) / p ≡ h - suc raw
rest p h raw pp l =
    let k : ℕ = h - suc raw in
    let whole : h * p ≡ (k + (raw + 1)) * p = ap (λ (x : ℕ). x * p) (omega arith) in
    let flat : h * p - suc (raw * p) ≡ k * p + (p - 1) = omega (arith, whole, add-mul k (raw + 1) p, add-mul raw 1 p) in
    ap (λ (x : ℕ). x / p) flat ∙ div-mul-add k p (p - 1) (omega arith)

pub shifted_back : (L raw : ℕ) → Raw L raw → shr_z (to_z w64 (raw * 2 ^ (64 - L) % 2 ^ 64)) (2 ^ (64 - L)) ≡ signed_whole L raw
shifted_back L raw R = ap (λ (n : ℕ). shr_z (to_z w64 n) p) (shl_exact L (64 - L) 64 R.within (sum L R.most)) ∙ go (dec_lt raw half)
  where
    p : ℕ
    p = 2 ^ (64 - L)

    half : ℕ
    half = 2 ^ (L - 1)

    n : ℕ
    n = raw * p

    sum : (L : ℕ) → L ≤ 64 → L + (64 - L) ≤ 64
    sum L h = omega arith

    all : (L : ℕ) → L ≤ 64 → 2 ^ L * 2 ^ (64 - L) ≡ 2 ^ 64
    all L h =
        let e : L + (64 - L) ≡ 64 = omega arith in
        sym (pow-add 2 L (64 - L)) ∙ ap (λ (x : ℕ). 2 ^ x) e

    top : (L : ℕ) → 1 ≤ L → L ≤ 64 → 2 ^ (L - 1) * 2 ^ (64 - L) ≡ 2 ^ 63
    top L a b =
        let e : L - 1 + (64 - L) ≡ 63 = omega arith in
        sym (pow-add 2 (L - 1) (64 - L)) ∙ ap (λ (x : ℕ). 2 ^ x) e

    read : Bool → ℤ
    read b = shr_z (sel b (pos n) (negsuc (2 ^ 64 - suc n))) p

    go : Dec (raw < half) → shr_z (to_z w64 n) p ≡ signed_whole L raw
    go (yes h) =
        ap read (lt-ltb n (2 ^ 63) (rw (top L R.some R.most) at (mul-lt-mul_of_pos_right {k = p} h (pow_pos (64 - L)))))
        ∙ ap pos (shl-shr raw (64 - L)) ∙ sym (low_is L raw R h)
    go (no o) =
        let h : half ≤ raw = omega arith in
        ap read (le-ltb n (2 ^ 63) (rw (top L R.some R.most) at (mul-le-mul_right p h)))
        ∙ ap (λ (x : ℕ). negsuc ((x - suc n) / p)) (sym (all L R.most))
        ∙ ap negsuc (rest p (2 ^ L) raw (pow_pos (64 - L)) R.within) ∙ sym (high_is L raw R h)
