-- Laws of lent counts: one more at a place, and what they add up to. Assumes nothing.
use mathlib.Core.Path.{◌≡◌, refl, ap, ap₂, ◌∙◌}
use mathlib.Core.Logic.{◌⊎◌, inl, inr}
use mathlib.Core.Bool.{false}
use mathlib.Core.List.{List}
use Prim.Native.Nat.{ℕ, zero, suc, ◌+◌, ◌^◌, ◌≤◌, ◌<◌}
use native.Mathlib.Nat.{lt_of_le_of_lt, min-le_right}
use native.Mathlib.Decide.{ℕ_discrete}
use native.Mathlib.Omega.{arith}
use borrow.Author.Tests.{eqb-false}
use lib.Dec.{lit<}
use lib.ListN.{length, get_or, set, replicate}
use lib.Seq.{get_or-set_same, get_or-set_other}
use Rattle.models.specs.Counts.{one_more, is_full, sum_from}

-- ---- sums

-- a count that is not among those that are added up changes nothing
pub sum-other : (l : List ℕ) (p x i n : ℕ) → (p < i) ⊎ (i + n ≤ p) → sum_from (set l p x) i n ≡ sum_from l i n
unfolding sum_from
sum-other l p x i zero s = refl
sum-other l p x i (suc n) s = go s (λ t. sum-other l p x (suc i) n t)
  where
    both : (i ≡ p → ⊥) → sum_from (set l p x) (suc i) n ≡ sum_from l (suc i) n → get_or (set l p x) i 0 + sum_from (set l p x) (suc i) n ≡ get_or l i 0 + sum_from l (suc i) n
    both ne rest = ap₂ (λ (a b : ℕ). a + b) (get_or-set_other l p i x 0 ne) rest

    go : (p < i) ⊎ (i + suc n ≤ p) → ((p < suc i) ⊎ (suc i + n ≤ p) → sum_from (set l p x) (suc i) n ≡ sum_from l (suc i) n)
        → get_or (set l p x) i 0 + sum_from (set l p x) (suc i) n ≡ get_or l i 0 + sum_from l (suc i) n
    go (inl a) rest = both (λ e. omega arith) (rest (inl (omega arith)))
    go (inr a) rest = both (λ e. omega arith) (rest (inr (omega arith)))

-- and one that is among them counts with its new value
pub sum-set : (l : List ℕ) (p x i n : ℕ) → p < length l → i ≤ p → p < i + n → sum_from (set l p x) i n + get_or l p 0 ≡ sum_from l i n + x
unfolding sum_from
sum-set l p x i zero h a b = absurd (omega arith)
sum-set l p x i (suc n) h a b = go (ℕ_discrete i p) (λ c. sum-set l p x (suc i) n h c (omega arith))
  where
    go : Dec (i ≡ p) → (suc i ≤ p → sum_from (set l p x) (suc i) n + get_or l p 0 ≡ sum_from l (suc i) n + x)
        → get_or (set l p x) i 0 + sum_from (set l p x) (suc i) n + get_or l p 0 ≡ get_or l i 0 + sum_from l (suc i) n + x
    go (yes e) rest =
        let now : get_or (set l p x) i 0 ≡ x = ap (λ (k : ℕ). get_or (set l p x) k 0) e ∙ get_or-set_same l p x 0 h in
        let was : get_or l i 0 ≡ get_or l p 0 = ap (λ (k : ℕ). get_or l k 0) e in
        let same : sum_from (set l p x) (suc i) n ≡ sum_from l (suc i) n = sum-other l p x (suc i) n (inl (omega arith)) in
        omega arith
    go (no ne) rest =
        let now : get_or (set l p x) i 0 ≡ get_or l i 0 = get_or-set_other l p i x 0 ne in
        let later : sum_from (set l p x) (suc i) n + get_or l p 0 ≡ sum_from l (suc i) n + x = rest (omega (arith, ne)) in
        omega arith

pub get_d_cleared : (n i : ℕ) → ◌≡◌ {A = ℕ} (get_or (replicate n 0) i 0) 0
get_d_cleared zero i = refl
get_d_cleared (suc n) zero = refl
get_d_cleared (suc n) (suc i) = get_d_cleared n i

pub sum-cleared : (m i n : ℕ) → sum_from (replicate m 0) i n ≡ 0
unfolding sum_from
sum-cleared m i zero = refl
sum-cleared m i (suc n) = ap₂ (λ (a b : ℕ). a + b) (get_d_cleared m i) (sum-cleared m (suc i) n)

-- ---- one more

pub one_more_mono : (a b : ℕ) → a ≤ b → one_more a ≤ one_more b
one_more_mono a b h = omega arith

pub one_more_most : (n : ℕ) → one_more n < 2 ^ 64
one_more_most n = lt_of_le_of_lt (min-le_right (n + 1) 0xFFFF_FFFF_FFFF_FFFF) (lit< tt)

-- a u64 with one more is no less
pub stays : (n : ℕ) → n < 2 ^ 64 → n ≤ one_more n
stays n h = omega arith

-- what is not full after one more is one more
pub not_full : (n : ℕ) → is_full (one_more n) ≡ false → one_more n ≡ n + 1
not_full n h = let no = eqb-false (one_more n) 0xFFFF_FFFF_FFFF_FFFF h in omega (arith, no)
