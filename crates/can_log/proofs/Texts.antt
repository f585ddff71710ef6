-- Text written into a buffer, one piece behind the other. Assumes nothing.
use mathlib.Core.Path.{◌≡◌, refl, sym, ◌∙◌, ap, subst}
use mathlib.Core.Bool.{Bool, true, false, cond}
use mathlib.Core.List.{List, [], ◌∷◌, ◌++◌, append_assoc, append-nil}
use Prim.Native.Nat.{ℕ, zero, suc, ◌+◌, ◌-◌, ◌*◌, ◌/◌, ◌%◌, ◌^◌, ◌<◌, ◌≤◌}
use native.Mathlib.Nat.{add-zero, one-le-pow, pow-le-pow_right}
use native.Mathlib.Numerals.{add-one}
use native.Mathlib.Omega.{arith}
use native.Mathlib.Decide.{dec_lt}
use lib.ListN.{length, take, drop, set, get_or, length-append}
use lib.Seq.{sets, sets-eq, drop-drop, take-suc}
use lib.Dec.{ltb}
use borrow.Rule.Slice.PartMut.{put_mid}
use borrow.Author.Tests.{lt-ltb, le-ltb}
use Rattle.io.specs.Digits.{last_digits, IsDigitCount}
use Rattle.can_log.specs.declared.lines.LogLine.{LogLine}
use Rattle.can_log.specs.Lines.{Written, text_of, rendered_of, buffer_of, Put, ascii, dec, decimal, numbers, line, field, answer_line, anomaly_line, anomaly_lines, hex8}
use lib.Ieee.{Float}
use Rattle.can_log.specs.declared.lines.Answer.{Answer}
use Rattle.frames.specs.declared.SignalAnomaly.{SignalAnomaly}

pub sets_append : (d : List ℕ) (i : ℕ) (t u : List ℕ) → sets d i (t ++ u) ≡ sets (sets d i t) (i + length t) u
sets_append d i [] u = ap (λ (k : ℕ). sets d k u) (sym (add-zero i))
sets_append d i (a ∷ t) u =
    let e : suc i + length t ≡ i + suc (length t) = omega arith in
    sets_append (set d i a) (suc i) t u ∙ ap (λ (k : ℕ). sets (sets (set d i a) (suc i) t) k u) e

-- a piece behind a piece
pub then : {d e f t u : List ℕ} {i r q : ℕ} → Put d i t r e → Put e r u q f → Put d i (t ++ u) q f
then {d} {e} {f} {t} {u} {i} {r} {q} p p' = record {
  stop = omega (arith, p.stop, p'.stop, length-append t u);
  done = rw (sets_append, ← p.done, ← p.stop) p'.done;
}

pub nothing : (d : List ℕ) (i : ℕ) → Put d i [] i d
nothing d i = record { stop = omega arith; done = refl }

-- the digits that the library writes are the definition's
pub digits_dec : (f k n : ℕ) → n < 10 ^ suc k → (0 < k → 10 ^ k ≤ n) → k < f → last_digits 10 (suc k) n ≡ dec f n
unfolding dec
digits_dec zero k n a b h = absurd (omega arith)
digits_dec (suc f) zero n a b h =
    let l : n < 10 = a in
    let m : n % 10 ≡ n = omega arith in
    rw (m, lt-ltb n 10 l) refl
digits_dec (suc f) (suc k) n a b h =
    let t : 10 ^ suc k ≤ n = b (omega arith) in
    let p : 1 ≤ 10 ^ k = one-le-pow k 10 (omega arith) in
    let l : 10 ≤ n = omega arith in
    let m : n % 10 < 10 = omega arith in
    let q : n / 10 < 10 ^ suc k = omega arith in
    let q' : 10 ^ k ≤ n / 10 = omega arith in
    rw (lt-ltb (n % 10) 10 m, le-ltb n 10 l, ← digits_dec f k (n / 10) q (λ _. q') (omega arith)) refl

too_many : (n k : ℕ) → n < 2 ^ 32 → 10 ≤ k → (0 < k → 10 ^ k ≤ n) → ⊥
too_many n k h m low =
    let p : 10 ^ 10 ≤ 10 ^ k = pow-le-pow_right (omega arith) m in
    let q : 10 ^ k ≤ n = low (omega arith) in
    omega arith

pub fewest_dec : (n r : ℕ) → n < 2 ^ 32 → IsDigitCount 10 1 n r → last_digits 10 r n ≡ decimal n
fewest_dec n zero h w = absurd (omega (arith, w.0))
fewest_dec n (suc k) h w =
    let e : suc k - 1 ≡ k = omega arith in
    let low : 0 < k → 10 ^ k ≤ n = λ l. subst (λ (j : ℕ). 10 ^ j ≤ n) e (w.2 (omega arith)) in
    let few : k < 10 = elim (dec_lt k 10) [ yes l ↦ l | no m ↦ absurd (too_many n k h (omega arith) low) ] in
    digits_dec 10 k n w.1 low few

dec_more : (f n : ℕ) (b : Bool) → length (dec f (n / 10)) ≤ f → length (cond b ((48 + n) ∷ []) (dec f (n / 10) ++ ((48 + n % 10) ∷ []))) ≤ suc f
dec_more f n true h = omega arith
dec_more f n false h = omega (arith, length-append (dec f (n / 10)) ((48 + n % 10) ∷ []))

pub dec-length : (f n : ℕ) → length (dec f n) ≤ f
unfolding dec
dec-length zero n = omega arith
dec-length (suc f) n = dec_more f n (ltb n 10) (dec-length f (n / 10))

-- a text of n bytes that is copied into the middle of a buffer
pub copied : (d : List ℕ) (at n k : ℕ) {t u : List ℕ} → n ≡ length t → k ≡ n → u ≡ t → at + n ≤ length d → Put d at t (at + n) (put_mid at k d u)
copied d at n k {t} en ek eu h = record {
  stop = ap (λ (j : ℕ). at + j) en;
  done = rw (eu, ek, en, drop-drop) (sym (sets-eq t d at (omega arith) ∙ append_assoc (take at d) t (drop (at + length t) d)));
}

-- the text of a piece is known under another name
pub named : {d e t u : List ℕ} {i r : ℕ} → t ≡ u → Put d i t r e → Put d i u r e
named {d} {e} {t} {u} {i} {r} q p = subst (λ (x : List ℕ). Put d i x r e) q p

pub hex_length : (n : ℕ) → length (hex8 n) ≡ 8
unfolding hex8
hex_length n = refl

pub numbers-length : (a : List ℕ) (n : ℕ) (w : List ℕ) (k : ℕ) → length (numbers a n w k) ≤ length a + length w + 20
numbers-length a n w k = simp length-append (omega (arith, dec-length 10 n, dec-length 10 k))

pub line-length : (a : List ℕ) (n : ℕ) (w : List ℕ) (k : ℕ) → length (line a n w k) ≤ length a + length w + 21
line-length a n w k = omega (arith, length-append (numbers a n w k) (ascii "\n"), numbers-length a n w k)

pub answer_length : (a : List ℕ) (n : ℕ) (r : Answer) → length (answer_line a n r) ≤ length a + 30
answer_length a n (Answer.Slot k) = omega (arith, line-length a n (ascii " slot ") k)
answer_length a n Answer.Done = omega (arith, length-append (a ++ decimal n) (ascii " ok\n"), length-append a (decimal n), dec-length 10 n)
answer_length a n (Answer.Refused k) = omega (arith, line-length a n (ascii " refused ") k)

pub field-length : (w : List ℕ) (x : Float) → length (field w x) ≡ length w + 8
field-length w x = simp (length-append, hex_length)

pub anomaly-length : (n : ℕ) (x : SignalAnomaly) → length (anomaly_line n x) ≤ 55
anomaly-length n x =
    let a = numbers-length (ascii "F ") n (ascii " slot ") x.slot in
    let b = field-length (ascii " z ") x.z_score in
    let d = field-length (ascii " value ") x.physical_value in
    omega (
      arith,
      length-append (numbers (ascii "F ") n (ascii " slot ") x.slot ++ field (ascii " z ") x.z_score ++ field (ascii " value ") x.physical_value) (ascii "\n"),
      length-append (numbers (ascii "F ") n (ascii " slot ") x.slot ++ field (ascii " z ") x.z_score) (field (ascii " value ") x.physical_value),
      length-append (numbers (ascii "F ") n (ascii " slot ") x.slot) (field (ascii " z ") x.z_score),
    )

pub lines-length : (n : ℕ) (xs : List SignalAnomaly) → length (anomaly_lines n xs) ≤ 55 * length xs
lines-length n [] = omega arith
lines-length n (x ∷ xs) = omega (arith, length-append (anomaly_line n x) (anomaly_lines n xs), anomaly-length n x, lines-length n xs)

pub lines_snoc : (n : ℕ) (xs : List SignalAnomaly) (x : SignalAnomaly) → anomaly_lines n (xs ++ (x ∷ [])) ≡ anomaly_lines n xs ++ anomaly_line n x
lines_snoc n [] x = append-nil (anomaly_line n x)
lines_snoc n (y ∷ xs) x = ap (λ (t : List ℕ). anomaly_line n y ++ t) (lines_snoc n xs x) ∙ sym (append_assoc (anomaly_line n y) (anomaly_lines n xs) (anomaly_line n x))

-- a turn of the loop over the anomalies
pub next_line : (n : ℕ) (l : List SignalAnomaly) (z : SignalAnomaly) (j : ℕ) → j < length l → anomaly_lines n (take j l) ++ anomaly_line n (get_or l j z) ≡ anomaly_lines n (take (j + 1) l)
next_line n l z j h = rw (add-one, take-suc l j z h) (sym (lines_snoc n (take j l) (get_or l j z)))

-- ---- `render`

pub no_room_lem : (room : ℕ) (l : LogLine) → room < 55 → Written.no_room ≡ rendered_of room l
no_room_lem room l h = rw (lt-ltb room 55 h) refl

pub kept_whole : (d : List ℕ) (l : LogLine) → length d < 55 → d ≡ buffer_of d l
kept_whole d l h = rw (lt-ltb (length d) 55 h) refl

module _ (d e : List ℕ) (l : LogLine) (r : ℕ) (h : 55 ≤ length d) (p : Put d 0 (text_of l) r e) where
  pub written : Written.wrote r ≡ rendered_of (length d) l
  written =
      let q : r ≡ length (text_of l) = omega (arith, p.stop) in
      rw (le-ltb (length d) 55 h, q) refl

  pub written_in : e ≡ buffer_of d l
  written_in = rw (le-ltb (length d) 55 h) p.done
