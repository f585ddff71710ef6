-- Laws of the map of seen bytes: once a byte is marked it is seen, and every other byte is seen exactly if it was. Assumes nothing.
use mathlib.Core.Path.{◌≡◌, refl, sym, ap, ap₂, ◌∙◌}
use mathlib.Core.Logic.{◌⊎◌, inl, inr}
use mathlib.Core.Bool.{Bool, true, false, cond, ◌||◌}
use mathlib.Core.List.{List, [], ◌∷◌}
use Prim.Native.Nat.{ℕ, zero, suc, ◌+◌, ◌-◌, ◌*◌, ◌/◌, ◌%◌, ◌^◌, ◌≤◌, ◌<◌}
use native.Mathlib.Nat.{zero-div, one-mul, add_comm, add-mul, mul-le-mul_right, le_of_eq, lt_of_lt_of_le, mod-lt, div-add-mod', div-lt_iff_lt-mul, add-mul-div_right, div-div-eq-div-mul}
use native.Mathlib.Decide.{ℕ_discrete, dec_lt}
use native.Mathlib.Omega.{arith}
use borrow.Author.Tests.{eqb-false, eq-eqb, ne_eqb}
use lib.Dec.{eqb}
use lib.ListN.{get_or, set}
use lib.Seq.{get_or-set_same, get_or-set_other}
use lib.Pow.{pow-add, pow_pos}
use Rattle.models.specs.declared.Seen.{Seen}
use Rattle.models.specs.Histogram.{words, map_of, none_seen, word_of, has_seen, marked}

abbrev bit : ℕ → ℕ → ℕ
bit x i = x / 2 ^ i % 2

-- 2 to the (a + 1 + b)
split : (a b : ℕ) → 2 ^ (a + (b + 1)) ≡ 2 ^ b * 2 * 2 ^ a
split a b = ap (λ (z : ℕ). 2 ^ z) (add_comm a (b + 1)) ∙ pow-add 2 (b + 1) a ∙ ap (λ (z : ℕ). z * 2 ^ a) (pow-add 2 b 1)

-- ---- a bit k that is 0 in x is made 1 by adding 2 ^ k, and no other bit changes

here : (x k : ℕ) → bit x k ≡ 0 → bit (x + 2 ^ k) k ≡ 1
here x k h = ap (λ (z : ℕ). (x + z) / 2 ^ k % 2) (sym (one-mul (2 ^ k))) ∙ ap (λ (z : ℕ). z % 2) (add-mul-div_right x 1 (pow_pos k)) ∙ odd (x / 2 ^ k) h
  where
    odd : (q : ℕ) → q % 2 ≡ 0 → (q + 1) % 2 ≡ 1
    odd q e = omega arith

below : (x j b : ℕ) → bit (x + 2 ^ (j + (b + 1))) j ≡ bit x j
below x j b =
    ap (λ (z : ℕ). (x + z) / 2 ^ j % 2) (split j b) ∙ ap (λ (z : ℕ). z % 2) (add-mul-div_right x (2 ^ b * 2) (pow_pos j)) ∙ even (x / 2 ^ j) (2 ^ b)
  where
    even : (q w : ℕ) → (q + w * 2) % 2 ≡ q % 2
    even q w = omega arith

above : (x k b : ℕ) → bit x k ≡ 0 → bit (x + 2 ^ k) (k + (b + 1)) ≡ bit x (k + (b + 1))
above x k b h =
    ap (λ (z : ℕ). z % 2) (parts (x + 2 ^ k)) ∙ ap (λ (z : ℕ). z / 2 / 2 ^ b % 2) (ap (λ (z : ℕ). (x + z) / 2 ^ k) (sym (one-mul (2 ^ k))) ∙ add-mul-div_right x 1 (pow_pos k))
    ∙ ap (λ (z : ℕ). z / 2 ^ b % 2) (halves (x / 2 ^ k) h) ∙ ap (λ (z : ℕ). z % 2) (sym (parts x))
  where
    order : (k b : ℕ) → k + (b + 1) ≡ k + 1 + b
    order k b = omega arith

    parts : (y : ℕ) → y / 2 ^ (k + (b + 1)) ≡ y / 2 ^ k / 2 / 2 ^ b
    parts y =
        ap (λ (z : ℕ). y / z) (ap (λ (z : ℕ). 2 ^ z) (order k b) ∙ pow-add 2 (k + 1) b ∙ ap (λ (z : ℕ). z * 2 ^ b) (pow-add 2 k 1))
        ∙ sym (div-div-eq-div-mul y (2 ^ k * 2) (2 ^ b)) ∙ ap (λ (z : ℕ). z / 2 ^ b) (sym (div-div-eq-div-mul y (2 ^ k) 2))

    halves : (q : ℕ) → q % 2 ≡ 0 → (q + 1) / 2 ≡ q / 2
    halves q e = omega arith

-- two places that differ
compare_places : (j k : ℕ) → (j ≡ k → ⊥) → ((b : ℕ) × (k ≡ j + (b + 1))) ⊎ ((b : ℕ) × (j ≡ k + (b + 1)))
compare_places j k ne = go (dec_lt j k)
  where
    go : Dec (j < k) → ((b : ℕ) × (k ≡ j + (b + 1))) ⊎ ((b : ℕ) × (j ≡ k + (b + 1)))
    go (yes l) = inl (k - j - 1, omega arith)
    go (no l) = inr (j - k - 1, omega (arith, ne))

-- a bit that is not 1 is 0
clear : (x k : ℕ) → eqb (bit x k) 1 ≡ false → bit x k ≡ 0
clear x k h = omega (arith, eqb-false (bit x k) 1 h)

other_bit : (x k j : ℕ) → bit x k ≡ 0 → (j ≡ k → ⊥) → bit (x + 2 ^ k) j ≡ bit x j
other_bit x k j h ne = go (compare_places j k ne)
  where
    go : ((b : ℕ) × (k ≡ j + (b + 1))) ⊎ ((b : ℕ) × (j ≡ k + (b + 1))) → bit (x + 2 ^ k) j ≡ bit x j
    go (inl (b, e)) = ap (λ (z : ℕ). bit (x + 2 ^ z) j) e ∙ below x j b
    go (inr (b, e)) = ap (bit (x + 2 ^ k)) e ∙ above x k b h ∙ ap (bit x) (sym e)

-- ---- the map

-- four words make a map, and a map is its words
pub four : (a b c d x k : ℕ) → k < 4 → words (map_of (set (a ∷ b ∷ c ∷ d ∷ []) k x)) ≡ set (a ∷ b ∷ c ∷ d ∷ []) k x
four a b c d x zero h = refl
four a b c d x (suc zero) h = refl
four a b c d x (suc (suc zero)) h = refl
four a b c d x (suc (suc (suc zero))) h = refl
four a b c d x (suc (suc (suc (suc k)))) h = absurd (omega arith)

-- a word of 64 bits whose bit k is 0 has room for 2 ^ k
pub room : (x k : ℕ) → x < 2 ^ 64 → k < 64 → eqb (bit x k) 1 ≡ false → x + 2 ^ k < 2 ^ 64
room x k h l f = sums (x / 2 ^ k) (x % 2 ^ k) (2 ^ k) (2 ^ (63 - k)) (sym (div-add-mod' x (2 ^ k))) (mod-lt x (pow_pos k)) even ((div-lt_iff_lt-mul (pow_pos k)).1 (lt_of_lt_of_le h (le_of_eq whole))) whole
  where
    even : x / 2 ^ k % 2 ≡ 0
    even = clear x k f

    whole : 2 ^ 64 ≡ 2 ^ (63 - k) * 2 * 2 ^ k
    whole = ap (λ (z : ℕ). 2 ^ z) (fits k l) ∙ pow-add 2 (63 - k + 1) k ∙ ap (λ (z : ℕ). z * 2 ^ k) (pow-add 2 (63 - k) 1)
      where
        fits : (k : ℕ) → k < 64 → 64 ≡ 63 - k + 1 + k
        fits k l = omega arith

    sums : (y r K M : ℕ) → x ≡ y * K + r → r < K → y % 2 ≡ 0 → y < M * 2 → 2 ^ 64 ≡ M * 2 * K → x + K < 2 ^ 64
    sums y r K M ex lr ev ly w =
        let two : (y + 2) * K ≡ y * K + 2 * K = add-mul y 2 K in
        let more : (y + 2) * K ≤ M * 2 * K = mul-le-mul_right K (omega arith) in
        omega arith

-- a byte that is marked already changes nothing
pub marked_before : (s : Seen) (v : ℕ) → has_seen s v ≡ true → marked s v ≡ s
unfolding marked
marked_before s v h = ap (λ (t : Bool). cond t s (map_of (set (words s) (v / 64) (word_of s v + 2 ^ (v % 64))))) h

-- the map that is marked, by the word that changes
pub marks : (s : Seen) (v y k : ℕ) → has_seen s v ≡ false → y ≡ word_of s v + 2 ^ (v % 64) → v / 64 ≡ k → map_of (set (words s) k y) ≡ marked s v
unfolding marked
marks s v y k h e f = ap₂ (λ (j z : ℕ). map_of (set (words s) j z)) (sym f) e ∙ sym (ap (λ (t : Bool). cond t s (map_of (set (words s) (v / 64) (word_of s v + 2 ^ (v % 64))))) h)

-- after a byte was marked a byte is seen if it is that one, or if it was seen before
pub marked_seen : (s : Seen) (v w : ℕ) → v < 256 → has_seen (marked s v) w ≡ (eqb w v || has_seen s w)
unfolding marked
marked_seen s v w byte = go (has_seen s v) refl (ℕ_discrete w v)
  where
    l : List ℕ
    l = words s

    x : ℕ
    x = get_or l (v / 64) 0

    new : List ℕ
    new = set l (v / 64) (x + 2 ^ (v % 64))

    inside : v / 64 < 4
    inside = omega arith

    apart : (w ≡ v → ⊥) → w / 64 ≡ v / 64 → w % 64 ≡ v % 64 → ⊥
    apart ne e f = ne (omega arith)

    else : has_seen s v ≡ false → (w ≡ v → ⊥) → Dec (w / 64 ≡ v / 64) → bit (get_or new (w / 64) 0) (w % 64) ≡ bit (get_or l (w / 64) 0) (w % 64)
    else h ne (no off) = ap (λ (z : ℕ). bit z (w % 64)) (get_or-set_other l (v / 64) (w / 64) _ 0 off)
    else h ne (yes e) =
        ap (λ (z : ℕ). bit (get_or new z 0) (w % 64)) e ∙ ap (λ (z : ℕ). bit z (w % 64)) (get_or-set_same l (v / 64) _ 0 inside)
        ∙ other_bit x (v % 64) (w % 64) (clear x (v % 64) h) (λ f. apart ne e f) ∙ ap (λ (z : ℕ). bit (get_or l z 0) (w % 64)) (sym e)

    in_map : (u : ℕ) → has_seen (map_of new) u ≡ eqb (bit (get_or new (u / 64) 0) (u % 64)) 1
    in_map u = ap (λ (z : List ℕ). eqb (bit (get_or z (u / 64) 0) (u % 64)) 1) (four s.from_0 s.from_64 s.from_128 s.from_192 (x + 2 ^ (v % 64)) (v / 64) inside)

    go : (b : Bool) → has_seen s v ≡ b → Dec (w ≡ v) → has_seen (cond b s (map_of new)) w ≡ (eqb w v || has_seen s w)
    go true h (yes e) = ap (has_seen s) e ∙ h ∙ sym (ap (λ (t : Bool). t || has_seen s w) (eq-eqb w v e))
    go true h (no ne) = sym (ap (λ (t : Bool). t || has_seen s w) (ne_eqb w v ne))
    go false h (yes e) =
        ap (has_seen (map_of new)) e ∙ in_map v ∙ ap (λ (z : ℕ). eqb (bit z (v % 64)) 1) (get_or-set_same l (v / 64) _ 0 inside)
        ∙ eq-eqb _ 1 (here x (v % 64) (clear x (v % 64) h)) ∙ sym (ap (λ (t : Bool). t || has_seen s w) (eq-eqb w v e))
    go false h (no ne) = in_map w ∙ ap (λ (z : ℕ). eqb z 1) (else h ne (ℕ_discrete (w / 64) (v / 64))) ∙ sym (ap (λ (t : Bool). t || has_seen s w) (ne_eqb w v ne))

-- an empty map has no byte
pub none_marked : (v : ℕ) → has_seen none_seen v ≡ false
none_marked v = ap (λ (z : ℕ). eqb (z / 2 ^ (v % 64) % 2) 1) (zeros (v / 64)) ∙ ap (λ (z : ℕ). eqb (z % 2) 1) (zero-div (2 ^ (v % 64)))
  where
    zeros : (k : ℕ) → ◌≡◌ {A = ℕ} (get_or (0 ∷ 0 ∷ 0 ∷ 0 ∷ []) k 0) 0
    zeros zero = refl
    zeros (suc zero) = refl
    zeros (suc (suc zero)) = refl
    zeros (suc (suc (suc zero))) = refl
    zeros (suc (suc (suc (suc k)))) = refl
