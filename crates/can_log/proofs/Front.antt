-- What stands at the front, once the first three tests have passed. Assumes nothing.
use mathlib.Core.Path.{◌≡◌, refl, ap}
use mathlib.Core.Bool.{Bool, true, false, ◌||◌}
use mathlib.Core.List.{List}
use mathlib.Core.Logic.{◌⊎◌, inl, inr}
use Prim.Native.Nat.{ℕ, ◌<◌, ◌≤◌}
use native.Mathlib.Omega.{arith}
use lib.Dec.{leb, eqb}
use lib.ListN.{length, get_or, take}
use borrow.Author.Tests.{eqb-true, ne_eqb, leb-true, le-leb, lt-leb, lt-ltb, le-ltb}
use Rattle.can_log.specs.Records.{Front, stop_number, item_of, known, marked, mark_of, size_of, misplaced, record_of, le16, bad_flags, define_of, definition_of, frame_of, classic_header, fd_length, fd_header, fd_frame_of}
use Rattle.std.specs.Prelude.{Option, Some, None, Ok, Err}
use Rattle.can_log.specs.declared.decode.Stop.{Stop}
use Rattle.can_log.specs.declared.decode.Mark.{Mark}

-- a mark that is known, and one that isn't
pub is_known : (m : Option Mark) {k : Mark} → Ok k ≡ known m → Some k ≡ m
is_known (Some j) e = let i : ◌≡◌ {A = Mark} _ j = cc in ap Some i
is_known None e = absurd (cc)

pub unknown : (m : Option Mark) {e : Stop} → Err e ≡ known m → (m ≡ None) × (e ≡ Stop.UnknownMark)
unknown None e = (refl, cc)
unknown (Some j) e = absurd (cc)

module _ (n : ℕ) (s : List ℕ) (h0 : length s ≡ 0 → ⊥) (hn : n ≡ 4294967295 → ⊥) (h1 : length s ≡ 1 → ⊥) where
  pub placed : item_of n s ≡ marked n s (mark_of (get_or s 0 0) (get_or s 1 0))
  unfolding item_of
  placed = simp (ne_eqb _ _ h0, ne_eqb _ _ hn, ne_eqb _ _ h1)

  -- a mark that is none of the log's
  pub unnamed : {e : Stop} → Err e ≡ known (mark_of (get_or s 0 0) (get_or s 1 0)) → Front.fault (stop_number e) ≡ item_of n s
  unnamed q =
      let u = unknown (mark_of (get_or s 0 0) (get_or s 1 0)) q in
      let two : 2 ≤ length s = omega arith in
      rw (placed, u.0, u.1, le-ltb _ _ two) refl

  module _ (k : Option Mark) (z : ℕ) (ek : k ≡ mark_of (get_or s 0 0) (get_or s 1 0)) (ez : z ≡ size_of k) where
    pub cut : length s < z → Front.incomplete ≡ item_of n s
    cut h = rw (placed, ← ek, ← ez, lt-ltb _ _ h) refl

    pub misplaced_here : (b : Bool) → b ≡ misplaced n k → b ≡ true → z ≤ length s → Front.fault 12 ≡ item_of n s
    misplaced_here b e t h = rw (placed, ← ek, ← ez, le-ltb _ _ h, ← e, t) refl

    pub whole : (b : Bool) → b ≡ misplaced n k → b ≡ false → z ≤ length s → record_of (take z s) k ≡ item_of n s
    whole b e t h = rw (placed, ← ek, ← ez, le-ltb _ _ h, ← e, t) refl

-- a definition's flags are bad, or good: the number that was read is the condition's
pub bad : (s : List ℕ) (m : ℕ) (b : Bool) → m ≡ le16 s 22 → b ≡ bad_flags (get_or s 6 0) m → b ≡ true → Front.fault 13 ≡ define_of s
unfolding define_of
bad s m b em eb t = rw (← em, ← eb, t) refl

pub good : (s : List ℕ) (m : ℕ) (b : Bool) → m ≡ le16 s 22 → b ≡ bad_flags (get_or s 6 0) m → b ≡ false → Front.definition (definition_of s (get_or s 6 0)) ≡ define_of s
unfolding define_of
good s m b em eb t = rw (← em, ← eb, t) refl

-- ---- a frame's record, whose bytes are s: its flags, then its length
module _ (s : List ℕ) where
  -- a flag above bit 1 gives 13, whatever else is set
  pub undefined_flag : 4 ≤ get_or s 2 0 → frame_of s ≡ Front.fault 13
  unfolding frame_of
  undefined_flag h = simp (le-leb 4 (get_or s 2 0) h)

  -- with none of these a length above 15 gives 14, of a remote frame too
  pub long_frame : get_or s 2 0 < 4 → 15 < get_or s 3 0 → frame_of s ≡ Front.fault 14
  unfolding frame_of
  long_frame h k = simp (lt-leb 4 (get_or s 2 0) h, lt-ltb 15 (get_or s 3 0) k)

  -- and with neither the record is a frame, remote exactly if bit 1 is set
  pub defined-flags : get_or s 2 0 < 4 → get_or s 3 0 ≤ 15 → frame_of s ≡ Front.frame (classic_header s)
  unfolding frame_of
  defined-flags h k = simp (lt-leb 4 (get_or s 2 0) h, le-ltb 15 (get_or s 3 0) k)

-- ---- the lengths above 8 that an FD frame can have
pub fd_listed : (n : ℕ) → (n ≡ 12) ⊎ ((n ≡ 16) ⊎ ((n ≡ 20) ⊎ ((n ≡ 24) ⊎ ((n ≡ 32) ⊎ ((n ≡ 48) ⊎ (n ≡ 64)))))) → fd_length n ≡ true
unfolding fd_length
fd_listed n (inl q) = ap fd_length q
fd_listed n (inr (inl q)) = ap fd_length q
fd_listed n (inr (inr (inl q))) = ap fd_length q
fd_listed n (inr (inr (inr (inl q)))) = ap fd_length q
fd_listed n (inr (inr (inr (inr (inl q))))) = ap fd_length q
fd_listed n (inr (inr (inr (inr (inr (inl q)))))) = ap fd_length q
fd_listed n (inr (inr (inr (inr (inr (inr q)))))) = ap fd_length q

-- and with 0 to 8 these are all
pub fd_short : (n : ℕ) → n ≤ 8 → fd_length n ≡ true
unfolding fd_length
fd_short n h = simp (le-leb n 8 h)

either : (a b : Bool) → (a || b) ≡ true → (a ≡ true) ⊎ (b ≡ true)
either true b h = inl refl
either false b h = inr h

one_more : (n k : ℕ) (b : Bool) {A : Type 0} → (b ≡ true → A) → (eqb n k || b) ≡ true → (n ≡ k) ⊎ A
one_more n k b {A} rest h = at (either (eqb n k) b h)
  where
    at : (eqb n k ≡ true) ⊎ (b ≡ true) → (n ≡ k) ⊎ A
    at (inl q) = inl (eqb-true n k q)
    at (inr q) = inr (rest q)

pub fd_only : (n : ℕ) → fd_length n ≡ true → (n ≤ 8) ⊎ ((n ≡ 12) ⊎ ((n ≡ 16) ⊎ ((n ≡ 20) ⊎ ((n ≡ 24) ⊎ ((n ≡ 32) ⊎ ((n ≡ 48) ⊎ (n ≡ 64)))))))
unfolding fd_length
fd_only n h = at (either (leb n 8) _ h)
  where
    at : (leb n 8 ≡ true) ⊎ ((eqb n 12 || (eqb n 16 || (eqb n 20 || (eqb n 24 || (eqb n 32 || (eqb n 48 || eqb n 64)))))) ≡ true)
        → (n ≤ 8) ⊎ ((n ≡ 12) ⊎ ((n ≡ 16) ⊎ ((n ≡ 20) ⊎ ((n ≡ 24) ⊎ ((n ≡ 32) ⊎ ((n ≡ 48) ⊎ (n ≡ 64)))))))
    at (inl q) = inl (leb-true n 8 q)
    at (inr q) =
        inr (one_more n 12 _ (one_more n 16 _ (one_more n 20 _ (one_more n 24 _ (one_more n 32 _ (one_more n 48 _ (eqb-true n 64)))))) q)

-- ---- an FD frame's record, whose bytes are s (T-05): its flags, then its length
module _ (s : List ℕ) where
  -- any flag but extended gives 13, whatever the length is
  pub fd_undefined_flag : 2 ≤ get_or s 2 0 → fd_frame_of s ≡ Front.fault 13
  unfolding fd_frame_of
  fd_undefined_flag h = simp (le-leb 2 (get_or s 2 0) h)

  -- with none of these a length that is not listed gives 14
  pub fd_unlisted : get_or s 2 0 < 2 → fd_length (get_or s 3 0) ≡ false → fd_frame_of s ≡ Front.fault 14
  unfolding fd_frame_of
  fd_unlisted h k = simp (lt-leb 2 (get_or s 2 0) h, k)

  -- and with neither the record is an FD frame
  pub fd_sound : get_or s 2 0 < 2 → fd_length (get_or s 3 0) ≡ true → fd_frame_of s ≡ Front.frame (fd_header s)
  unfolding fd_frame_of
  fd_sound h k = simp (lt-leb 2 (get_or s 2 0) h, k)
