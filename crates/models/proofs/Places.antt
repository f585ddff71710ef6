-- Laws of the index: a number of 1 to 256 with one bit set is a power of two, and a mask gives the remainder by it. Assumes nothing.
use mathlib.Core.Path.{◌≡◌, refl, sym, ap, ◌∙◌}
use mathlib.Core.Bool.{Bool, true, false, cond, ◌&&◌, ◌||◌}
use Prim.Native.Nat.{ℕ, zero, suc, ◌+◌, ◌-◌, ◌*◌, ◌%◌, ◌^◌, ◌≤◌, ◌<◌}
use native.Mathlib.Nat.{mul-le-mul, mul-le-mul_right, suc-mul}
use native.Mathlib.Decide.{ℕ_discrete}
use native.Mathlib.Omega.{arith}
use borrow.Author.Tests.{eqb-true}
use lib.Dec.{eqb}
use lib.Bits.{bit_and, and_mask}
use Rattle.std.specs.Int.{is_power_of_two}
use Rattle.std.specs.Int.Count.{ones}

-- n is one of 2 ^ 0 to 2 ^ k
abbrev is_power : ℕ → ℕ → Bool
is_power n zero = eqb n 1
is_power n (suc k) = eqb n (2 ^ suc k) || is_power n k

exponent : (n k : ℕ) → is_power n k ≡ true → (j : ℕ) × (n ≡ 2 ^ j)
exponent n zero h = (0, eqb-true n 1 h)
exponent n (suc k) h = go (eqb n (2 ^ suc k)) refl h (λ rest. exponent n k rest)
  where
    go : (b : Bool) → eqb n (2 ^ suc k) ≡ b → (b || is_power n k) ≡ true → (is_power n k ≡ true → (j : ℕ) × (n ≡ 2 ^ j)) → (j : ℕ) × (n ≡ 2 ^ j)
    go true e t later = (suc k, eqb-true n (2 ^ suc k) e)
    go false e t later = later t

-- each of the numbers 1 to n that passes the test is a power of two
abbrev passes : ℕ → Bool
passes n = cond (is_power_of_two n) (is_power n 8) true

abbrev all_pass : ℕ → Bool
all_pass zero = true
all_pass (suc n) = passes (suc n) && all_pass n

all_256 : all_pass 256 ≡ true
unfolding ones
all_256 = refl

one_passes : (n m : ℕ) → all_pass m ≡ true → 1 ≤ n → n ≤ m → passes n ≡ true
one_passes n zero h a b = absurd (omega arith)
one_passes n (suc m) h a b = go (ℕ_discrete n (suc m)) (passes (suc m)) refl h (λ rest le. one_passes n m rest a le)
  where
    go : Dec (n ≡ suc m) → (t : Bool) → passes (suc m) ≡ t → (t && all_pass m) ≡ true → (all_pass m ≡ true → n ≤ m → passes n ≡ true) → passes n ≡ true
    go (yes e) true p h later = ap passes e ∙ p
    go (no ne) true p h later = later h (omega (arith, ne))
    go d false p h later = cc

power : (n : ℕ) → 1 ≤ n → n ≤ 256 → is_power_of_two n ≡ true → (j : ℕ) × (n ≡ 2 ^ j)
power n a b h = exponent n 8 (sym (ap (λ (t : Bool). cond t (is_power n 8) true) h) ∙ one_passes n 256 all_256 a b)

pub masked : (n v : ℕ) → 1 ≤ n → n ≤ 256 → is_power_of_two n ≡ true → bit_and v (n - 1) ≡ v % n
masked n v a b h = let p = power n a b h in ap (λ (k : ℕ). bit_and v (k - 1)) p.1 ∙ and_mask v p.0 ∙ ap (λ (k : ℕ). v % k) (sym p.1)

-- and 256 is one, so a size that is none is below it
pub below_256 : (n : ℕ) → n ≤ 256 → is_power_of_two n ≡ false → n < 256
unfolding ones
below_256 n b h = go (ℕ_discrete n 256)
  where
    go : Dec (n ≡ 256) → n < 256
    go (yes e) = let no : true ≡ false = sym (ap is_power_of_two e) ∙ h in cc
    go (no ne) = omega (arith, ne)

-- ---- rows of n: place t of row f is inside, and a square is at most 4,096

pub cell_inside : (f t n : ℕ) → f < n → t < n → f * n + t < n * n
cell_inside f t n a b =
    let more : suc f * n ≤ n * n = mul-le-mul_right n a in
    let row : suc f * n ≡ f * n + n = suc-mul f n in
    omega arith

pub square_small : (n : ℕ) → n ≤ 64 → n * n ≤ 4096
square_small n h = mul-le-mul h h
