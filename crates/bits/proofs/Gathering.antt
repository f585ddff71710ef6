-- Laws of reading: the bits of a signal cut out of a number that is gathered from whole bytes.
-- Assumes nothing.
use mathlib.Core.Path.{◌≡◌, refl, sym, ap, ap₂, ◌∙◌}
use mathlib.Core.List.{List}
use Prim.Native.Nat.{ℕ, zero, suc, ◌+◌, ◌-◌, ◌*◌, ◌/◌, ◌%◌, ◌^◌, ◌≤◌, ◌<◌}
use native.Mathlib.Nat.{zero-add, mul_assoc, lt_of_lt_of_le, le_of_eq, mod-lt, div-add-mod', mul-add-div_right, mul-mod_left, add-mul-mod_self_right}
use native.Mathlib.Omega.{arith}
use lib.ListN.{get_or}
use lib.Pow.{pow-add, pow_pos, mod-pow-add, shr-shr, shl-shr, shr_lt}
use lib.Pow as pow
use Rattle.bits.specs.declared.ByteOrder.{ByteOrder}
use Rattle.bits.specs.declared.ByteOrder.TheVariants.{LittleEndian, BigEndian}
use Rattle.bits.specs.Signal.{value, bit_of, bit_at, turn, rank, place, signal_bit, raw_of, signal_byte, bytes_value}
use Rattle.bits.proofs.Laws.{value_ext, digit, field, part, byte, bit_lt, place_byte, room}

-- L bits of a number made of n bits, from bit c on, are the number made of those L bits
run : (f : ℕ → ℕ) → ((j : ℕ) → f j < 2) → (n c L : ℕ) → c + L ≤ n → value f 0 n / 2 ^ c % 2 ^ L ≡ value f c L
run f b n c L h =
    sym (field (value f 0 n) c L)
    ∙ value_ext (bit_of (value f 0 n)) f c c L (λ j l. digit f b 0 n (c + j) (omega arith) ∙ ap f (zero-add (c + j)))

-- bit j of a signal that stands within another one of N bits is a bit of that one, at the same place
same_place : (o : ByteOrder) (M N m L j : ℕ) → M ≤ m → m + L ≤ M + N → j < L → place o M N (rank o (N - L + 1) (m - M) + j) ≡ place o m L (0 + j)
same_place LittleEndian M N m L j lo hi l = omega arith
same_place BigEndian M N m L j lo hi l =
    let c : N - L + 1 - 1 - (m - M) + (m + L) ≡ M + N = omega arith in
    ap (turn BigEndian) (counts (N - L + 1 - 1 - (m - M)) c)
  where
    counts : (c : ℕ) → c + (m + L) ≡ M + N → M + (N - 1 - (c + j)) ≡ m + (L - 1 - (0 + j))
    counts c e = omega arith

-- a signal within another one is cut out of that one's raw number w
pub within : (d : List ℕ) (o : ByteOrder) (M N m L c w : ℕ) → w ≡ raw_of d o M N → c ≡ rank o (N - L + 1) (m - M) → M ≤ m → m + L ≤ M + N → c + L ≤ N
    → w / 2 ^ c % 2 ^ L ≡ raw_of d o m L
within d o M N m L c w ew ec lo hi h =
    ap (λ (x : ℕ). x / 2 ^ c % 2 ^ L) ew ∙ run (signal_bit d o M N) (λ j. bit_lt d (place o M N j)) N c L h
    ∙ value_ext (signal_bit d o M N) (signal_bit d o m L) c 0 L
    (λ j l. ap (λ (z : ℕ). signal_bit d o M N (z + j)) ec ∙ ap (bit_at d) (same_place o M N m L j lo hi l))

-- the bytes of a signal of n whole bytes are cut out of its raw number too
pub byte_within : (d : List ℕ) (o : ByteOrder) (at n k : ℕ) → ((j : ℕ) → get_or d j 0 < 256) → k < n
    → raw_of d o (8 * at) (8 * n) / 2 ^ (8 * k) % 256 ≡ signal_byte d o at n k
byte_within d o at n k small l =
    let f : ℕ → ℕ = signal_bit d o (8 * at) (8 * n) in
    run f (λ j. bit_lt d (place o (8 * at) (8 * n) j)) (8 * n) (8 * k) 8 (omega arith)
    ∙ byte f (8 * k) (signal_byte d o at n k) (small (at + rank o n k)) (λ j hj. place_byte d o at n k j l hj)

-- a number of bytes is settled by its bytes
pub bytes_same : (g h : ℕ → ℕ) (k n : ℕ) → ((j : ℕ) → j < k + n → g j ≡ h j) → bytes_value g k n ≡ bytes_value h k n
unfolding bytes_value
bytes_same g h k zero same = refl
bytes_same g h k (suc n) same = ap₂ (λ (a b : ℕ). a + 256 * b) (same k (omega arith)) (bytes_same g h (suc k) n (λ j l. same j (omega arith)))

-- eight bytes as one number
pub eight_bytes : (k : ℕ → ℕ) {r a b c d e f g h : ℕ} → r ≡ a + 256 * (b + 256 * (c + 256 * (d + 256 * (e + 256 * (f + 256 * (g + 256 * h))))))
    → a ≡ k 0 → b ≡ k 1 → c ≡ k 2 → d ≡ k 3 → e ≡ k 4 → f ≡ k 5 → g ≡ k 6 → h ≡ k 7 → r ≡ bytes_value k 0 8
unfolding bytes_value
eight_bytes k sum ea eb ec ed ee ef eg eh = omega arith

-- a shift up that takes the bits above away, and one down that takes those below
pub shifted : (w b L : ℕ) → b + L ≤ 64 → w * 2 ^ (64 - L - b) % 2 ^ 64 / 2 ^ (64 - L) ≡ w / 2 ^ b % 2 ^ L
shifted w b L h =
    let up : ℕ = 64 - L - b in
    let all : 64 ≡ L + (64 - L) = omega arith in
    let low : 64 - L ≡ up + b = omega arith in
    ap (λ (e : ℕ). w * 2 ^ up % 2 ^ e / 2 ^ (64 - L)) all ∙ pow.field (w * 2 ^ up) L (64 - L)
    ∙ ap (λ (x : ℕ). x % 2 ^ L)
    (ap (λ (e : ℕ). w * 2 ^ up / 2 ^ e) low ∙ sym (shr-shr (w * 2 ^ up) up b) ∙ ap (λ (x : ℕ). x / 2 ^ b) (shl-shr w up))

-- the lowest byte x without its b lowest bits, and `high` put above it: the sum fits, and its L lowest bits are right though the shift may lose the top of `high`
pub record Joined (x high b L : ℕ) : Type 0 where
  pub fits : high * 2 ^ (8 - b) % 2 ^ 64 + x / 2 ^ b < 2 ^ 64
  pub is : (high * 2 ^ (8 - b) % 2 ^ 64 + x / 2 ^ b) % 2 ^ L ≡ (high * 256 + x) / 2 ^ b % 2 ^ L

pub joined : (x high b L : ℕ) → x < 256 → b < 8 → L ≤ 64 → Joined x high b L
joined x high b L hx hb hL =
    let s : ℕ = 8 - b in
    let up : ℕ = high * 2 ^ s in
    let low : ℕ = x / 2 ^ b in
    let eight : s + b ≡ 8 = omega arith in
    let byte-is : 2 ^ (s + b) ≡ 256 = ap (λ (e : ℕ). 2 ^ e) eight in
    let less : low < 2 ^ s = shr_lt s b (lt_of_lt_of_le hx (le_of_eq (sym byte-is))) in
    let width : 64 ≡ 56 + b + s = omega arith in
    let kept : up % 2 ^ 64 ≡ high % 2 ^ (56 + b) * 2 ^ s + 0 =
    ap (λ (e : ℕ). up % 2 ^ e) width ∙ mod-pow-add up (56 + b) s ∙ ap₂ (λ (y z : ℕ). y % 2 ^ (56 + b) * 2 ^ s + z) (shl-shr high s) (mul-mod_left high (2 ^ s)) in
    let all : (high * 256 + x) / 2 ^ b ≡ up + low =
    ap (λ (y : ℕ). (y + x) / 2 ^ b) (ap (λ (y : ℕ). high * y) (sym byte-is ∙ pow-add 2 s b) ∙ sym (mul_assoc high (2 ^ s) (2 ^ b))) ∙ mul-add-div_right (pow_pos b) up x in
    let rest : 64 - L + L ≡ 64 = omega arith in
    let lost : up / 2 ^ 64 * 2 ^ (64 - L) * 2 ^ L ≡ up / 2 ^ 64 * 2 ^ 64 =
    mul_assoc (up / 2 ^ 64) (2 ^ (64 - L)) (2 ^ L) ∙ ap (λ (y : ℕ). up / 2 ^ 64 * y) (sym (pow-add 2 (64 - L) L) ∙ ap (λ (e : ℕ). 2 ^ e) rest) in
    let more : up + low ≡ up % 2 ^ 64 + low + up / 2 ^ 64 * 2 ^ (64 - L) * 2 ^ L = omega (arith, div-add-mod' up (2 ^ 64), lost) in
    record {
      fits = omega (arith, kept, room (56 + b) s (mod-lt high (pow_pos (56 + b))) less (omega arith));
      is = sym (ap (λ (y : ℕ). y % 2 ^ L) (all ∙ more) ∙ add-mul-mod_self_right (up % 2 ^ 64 + low) (up / 2 ^ 64 * 2 ^ (64 - L)) (2 ^ L));
    }

-- a signal of L bits in the n whole bytes that it touches, with b bits below it: b is less than a byte has, and both fit
pub record Touched (L n b : ℕ) : Type 0 where
  pub less : b < 8
  pub fits : b + L ≤ 8 * n

pub touched : (o : ByteOrder) (m L n b : ℕ) → n ≡ (m % 8 + L + 7) / 8 → b ≡ rank o (8 * n - L + 1) (m % 8) → Touched L n b
touched LittleEndian m L n b en eb = record { less = omega arith; fits = omega arith }
touched BigEndian m L n b en eb = record { less = omega arith; fits = omega arith }

-- the raw number, out of the lowest byte x of these bytes and what is above it
pub gathers : (d : List ℕ) (o : ByteOrder) (m L n b x high : ℕ) → 1 ≤ L → L ≤ 64 → n ≡ (m % 8 + L + 7) / 8 → b ≡ rank o (8 * n - L + 1) (m % 8)
    → x < 256 → x ≡ signal_byte d o (m / 8) n 0 → high ≡ value (signal_bit d o (8 * (m / 8)) (8 * n)) 8 (8 * n - 8)
    → (high * 2 ^ (8 - b) % 2 ^ 64 + x / 2 ^ b) % 2 ^ L ≡ raw_of d o m L
gathers d o m L n b x high some most en eb hx ex eh =
    let f : ℕ → ℕ = signal_bit d o (8 * (m / 8)) (8 * n) in
    let t = touched o m L n b en eb in
    let lowest : value f 0 8 ≡ x = byte f 0 x hx (λ j l. place_byte d o (m / 8) n 0 j (omega arith) l ∙ ap (λ (y : ℕ). bit_of y j) (sym ex)) in
    let all : high * 256 + x ≡ raw_of d o (8 * (m / 8)) (8 * n) = omega (arith, part f 0 8 (8 * n) 8 (8 * n - 8) (omega arith) (omega arith)) in
    let off : m % 8 ≡ m - 8 * (m / 8) = omega arith in
    (joined x high b L hx t.less most).is
    ∙ within d o (8 * (m / 8)) (8 * n) m L b (high * 256 + x) all (eb ∙ ap (rank o (8 * n - L + 1)) off) (omega arith) (omega arith) t.fits
