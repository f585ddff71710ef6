-- Document 02, T-05, "CAN FD frames": the payload of every frame value, and that no byte behind it shows; so of a classic frame none from 8 on.
-- Assumes nothing.
use mathlib.Core.Path.{◌≡◌, refl, sym, ap, ◌∙◌, subst}
use mathlib.Core.Bool.{Bool, true, false, cond}
use mathlib.Core.List.{List}
use Prim.Native.Nat.{ℕ, ◌≤◌, min}
use native.Mathlib.Omega.{arith}
use lib.ListN.{take}
use lib.Seq.{take-take}
use contract.Lifetimes.{Lfts}
use denote.Ref.{Bor}
use Rattle.detector.proofs.Told.{chosen, other}
use Rattle.table.specs.declared.SignalIdsEngine.{SignalIdsEngine}
use Rattle.frames.specs.declared.FrameHeader.{FrameHeader}
use Rattle.frames.specs.declared.CanFrame.{CanFrame}
use Rattle.frames.specs.declared.Processed.{Processed}
use Rattle.frames.specs.Frames.{payload_of, effective_of, frame_with, processed, processed_frame}
use Rattle.frames.specs.Isolation.{framed, concerns}
use Rattle.frames.proofs.Payload.{same_number, same_frame}
use Rattle.frames.proofs.Determined.{processed-settled}
use Rattle.frames.proofs.payload_len.Reads as payload-len
use Rattle.frames.proofs.process_frame.Reads as process-frame
use Rattle.frames.proofs.process_lent_frame.Reads as process-lent-frame

-- ---- all that a frame does hangs on the first n of its bytes
pub same_bytes : (s t : List ℕ) (n : ℕ) → take n s ≡ take n t → (e : SignalIdsEngine) (id : ℕ) (x : Bool) → processed e id x s n ≡ processed e id x t n
same_bytes s t n alike = same_frame s t n n (same_number s t n alike)

-- ---- T-05's sentences, on every value of the record
module _ (f : CanFrame) where
  -- an FD frame's payload is its length, at most 64, and its remote flag is not asked
  pub fd_payload : f.is_fd ≡ true → payload_of f ≡ min f.length 64
  fd_payload h = chosen _ _ h

  -- a classic frame's payload is 0 if it is remote, and else its length, at most 8
  pub classic_payload : f.is_fd ≡ false → payload_of f ≡ cond f.is_remote 0 (min f.length 8)
  classic_payload h = other _ _ h

  classic_short : f.is_fd ≡ false → payload_of f ≤ 8
  classic_short h = subst (λ (n : ℕ). n ≤ 8) (sym (classic_payload h)) (at f.is_remote)
    where
      at : (b : Bool) → cond b 0 (min f.length 8) ≤ 8
      at true = omega arith
      at false = omega arith

  -- of what the compiled call returns
  module _ (κs : Lfts 0) (r : ℕ) (out : _) (promised : payload-len.Learnt κs (f, tt) r out) where
    pub fd_payload_len : f.is_fd ≡ true → r ≡ min f.length 64
    fd_payload_len h = promised ∙ fd_payload h

    pub classic_payload_len : f.is_fd ≡ false → r ≡ cond f.is_remote 0 (min f.length 8)
    classic_payload_len h = promised ∙ classic_payload h

  -- the frame with other data, with another remote flag, with another FD flag
  abbrev pub with_data : List ℕ → CanFrame
  with_data l = record { id = f.id; is_extended = f.is_extended; is_remote = f.is_remote; is_fd = f.is_fd; length = f.length; «data» = l }

  abbrev pub with_remote : Bool → CanFrame
  with_remote b = record { id = f.id; is_extended = f.is_extended; is_remote = b; is_fd = f.is_fd; length = f.length; «data» = f.«data» }

  abbrev pub with_fd : Bool → CanFrame
  with_fd b = record { id = f.id; is_extended = f.is_extended; is_remote = f.is_remote; is_fd = b; length = f.length; «data» = f.«data» }

  -- no byte behind the payload shows
  pub only_payload : (e : SignalIdsEngine) (l : List ℕ) → take (payload_of f) l ≡ take (payload_of f) f.«data» → processed_frame e (with_data l) ≡ processed_frame e f
  unfolding effective_of
  only_payload e l h = same_bytes l f.«data» (payload_of f) h e (effective_of f) f.is_extended

  -- so a classic frame's answer does not depend on its data bytes from 8 on
  pub classic_eight : f.is_fd ≡ false → (e : SignalIdsEngine) (l : List ℕ) → take 8 l ≡ take 8 f.«data» → processed_frame e (with_data l) ≡ processed_frame e f
  classic_eight c e l h =
      let n = payload_of f in
      let k = classic_short c in
      only_payload e l (sym (take-take n 8 l k) ∙ ap (take n) h ∙ take-take n 8 f.«data» k)

  -- an FD frame's answer does not depend on its remote flag
  pub fd_remote : f.is_fd ≡ true → (e : SignalIdsEngine) (b : Bool) → processed_frame e (with_remote b) ≡ processed_frame e f
  unfolding effective_of
  fd_remote h e b =
      ap (processed e (effective_of f) f.is_extended f.«data») (chosen _ _ h ∙ sym (fd_payload h))

  -- of what the compiled calls return
  module _ (κs λs : Lfts 0) (e : SignalIdsEngine) (r q : Processed) (x y : _) (one : process-frame.Learnt κs (e, (f, tt)) r x) where
    pub classic_eight_returned : f.is_fd ≡ false → (l : List ℕ) → take 8 l ≡ take 8 f.«data» → process-frame.Learnt λs (e, (with_data l, tt)) q y → q ≡ r
    classic_eight_returned c l h two = processed-settled q r (two ∙ classic_eight c e l h ∙ sym one)

    pub fd_remote_returned : f.is_fd ≡ true → (b : Bool) → process-frame.Learnt λs (e, (with_remote b, tt)) q y → q ≡ r
    fd_remote_returned c b two = processed-settled q r (two ∙ fd_remote c e b ∙ sym one)

  -- a classic and an FD frame with the same identifier and frame type share a key: demand 3 keeps, or takes out, both
  pub shared_key : (b : Bool) (id : ℕ) (x : Bool) → concerns id x (framed (with_fd b)) ≡ concerns id x (framed f)
  unfolding effective_of
  shared_key b id x = refl

-- ---- a frame whose data bytes are lent
module _ (κs : Lfts 1) (e : SignalIdsEngine) (h : FrameHeader) (bytes : Bor (List ℕ)) (r : Processed) (x : _)
    (lent : process-lent-frame.Learnt κs (e, (h, (bytes, tt))) r x) where
  -- what is promised of it is what is promised of a frame that has these bytes: every theorem on what `process_frame` returns speaks of it
  pub lent_promised : (λs : Lfts 0) (y : _) → process-frame.Learnt λs (e, (frame_with h bytes.now, tt)) r y
  lent_promised λs y = lent

  -- and it returns what `process_frame` returns of a frame whose data has the same payload, whatever is lent behind that
  pub lent_returned : (l : List ℕ) → take (payload_of (frame_with h l)) bytes.now ≡ take (payload_of (frame_with h l)) l
      → (λs : Lfts 0) (q : Processed) (y : _) → process-frame.Learnt λs (e, (frame_with h l, tt)) q y
      → r ≡ q
  lent_returned l same λs q y framed' = processed-settled r q (lent ∙ only_payload (frame_with h l) e bytes.now same ∙ sym framed')
