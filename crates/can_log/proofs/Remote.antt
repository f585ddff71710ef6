-- Document 02, T-01, in the log: a frame's record with flag bit 1 clear reads as before, and a remote frame prints nothing and moves nothing.
-- What the flags of every record say is in Front.
-- Assumes nothing.
use mathlib.Core.Path.{◌≡◌, refl, sym, ap, ◌∙◌, subst}
use mathlib.Core.Bool.{Bool, true, false, cond, true≢false}
use mathlib.Core.List.{List, []}
use Prim.Native.Nat.{ℕ, ◌+◌, ◌/◌, ◌%◌, ◌<◌, ◌≤◌}
use native.Mathlib.Omega.{arith}
use native.Mathlib.Decide.{dec_le}
use lib.Dec.{ltb, leb, eqb}
use lib.ListN.{length, get_or, take}
use borrow.Author.Tests.{le-leb, lt-leb, eqb-false}
use Rattle.table.specs.Rows.{pad, keep}
use Rattle.table.specs.Table.{live}
use Rattle.table.proofs.Columns.{Sound}
use Rattle.frames.specs.declared.FrameHeader.{FrameHeader}
use Rattle.frames.specs.declared.CanFrame.{CanFrame}
use Rattle.frames.specs.declared.SignalAnomaly.{SignalAnomaly}
use Rattle.frames.specs.Frames.{effective_of, applies, blank_anomaly, Framed}
use Rattle.frames.proofs.Remote.{remote_frame, none_listed}
use Rattle.std.specs.Prelude.{Option, Some, None}
use Rattle.can_log.specs.declared.decode.Mark.{Mark}
use Rattle.can_log.specs.declared.stream.Log.{Log}
use Rattle.can_log.specs.Records.{Front, le16, le32, flag, bad_flags, mark_of, size_of, misplaced, settings_of, define_of, remove_of, frame_of, fd_length, fd_frame_of, record_of, item_of}
use Rattle.can_log.specs.Lines.{anomaly_lines}
use Rattle.can_log.specs.Output.{processed_by, go_step, frame_step, frame_size, frame_at, item_step, step_of}
use Rattle.can_log.proofs.Steps.{choose}

-- ---- a frame's record, whose bytes are s
module _ (s : List ℕ) where
  abbrev flags : ℕ
  flags = get_or s 2 0

  -- document 01's own rule, by which bit 1 is undefined; the frame is not remote
  abbrev pub frame_before : Front
  frame_before = cond (leb 2 flags) (Front.fault 13) (cond (ltb 15 (get_or s 3 0)) (Front.fault 14) (Front.frame (record { id = le32 s 4; is_extended = eqb flags 1; is_remote = false; is_fd = false; length = get_or s 3 0 })))

  -- with bit 1 clear the record reads by it
  pub clear_as_before : flag 2 flags ≡ false → frame_of s ≡ frame_before
  unfolding frame_of
  clear_as_before h = go (dec_le 4 flags)
    where
      go : Dec (4 ≤ flags) → frame_of s ≡ frame_before
      go (yes k) = simp (le-leb 4 flags k, le-leb 2 flags (omega arith))
      go (no k) =
          let few : flags < 2 = omega (arith, eqb-false (flags / 2 % 2) 1 h) in
          let low : flags % 2 ≡ flags = omega arith in
          simp (lt-leb 4 flags (omega arith), lt-leb 2 flags few, h, low)

-- ---- where a record is a remote frame, it is a classic one
abbrev RemoteClassic : Front → Type 0
RemoteClassic Front.incomplete = Unit {0}
RemoteClassic (Front.fault k) = Unit {0}
RemoteClassic (Front.settings a t) = Unit {0}
RemoteClassic (Front.definition d) = Unit {0}
RemoteClassic (Front.removal k) = Unit {0}
RemoteClassic (Front.frame h) = h.is_remote ≡ true → h.is_fd ≡ false

record_remote : (s : List ℕ) (k : Option Mark) → RemoteClassic (record_of s k)
unfolding settings_of define_of remove_of frame_of fd_frame_of
record_remote s (Some Mark.Settings) = tt
record_remote s (Some Mark.Definition) = choose RemoteClassic (bad_flags (get_or s 6 0) (le16 s 22)) _ _ (λ _. tt) (λ _. tt)
record_remote s (Some Mark.Removal) = tt
record_remote s (Some Mark.Frame) = choose RemoteClassic (leb 4 (get_or s 2 0)) _ _ (λ _. tt) (λ _. choose RemoteClassic (ltb 15 (get_or s 3 0)) _ _ (λ _. tt) (λ _ _. refl))
record_remote s (Some Mark.FdFrame) =
    choose RemoteClassic (leb 2 (get_or s 2 0)) _ _ (λ _. tt) (λ _. choose RemoteClassic (fd_length (get_or s 3 0)) _ _ (λ _ q. absurd (true≢false (sym q))) (λ _. tt))
record_remote s None = tt

item_remote : (n : ℕ) (s : List ℕ) → RemoteClassic (item_of n s)
unfolding item_of
item_remote n s =
    let k = mark_of (get_or s 0 0) (get_or s 1 0) in
    choose RemoteClassic (eqb (length s) 0) _ _ (λ _. tt)
    (λ _. choose RemoteClassic (eqb n 4294967295) _ _ (λ _. tt)
    (λ _. choose RemoteClassic (eqb (length s) 1) _ _ (λ _. tt)
    (λ _. choose RemoteClassic (ltb (length s) (size_of k)) _ _ (λ _. tt)
    (λ _. choose RemoteClassic (misplaced n k) _ _ (λ _. tt) (λ _. record_remote (take (size_of k) s) k)))))

-- ---- a remote frame is a sound record of 16 bytes that prints nothing and leaves the engine as it is
module _ (log : Log) (good : Sound log.engine) where
  remote_step : (n : ℕ) (f : CanFrame) → f.is_fd ≡ false → f.is_remote ≡ true → frame_step log n f ≡ go_step log n [] log.engine
  unfolding processed_by
  remote_step n f classic remote =
      ap (λ (p : Framed). go_step log n (anomaly_lines (log.count + 1) (take p.result.anomaly_count p.result.anomalies)) p.engine) (remote_frame f classic remote log.engine good)
      ∙ ap (λ (l : List SignalAnomaly). go_step log n (anomaly_lines (log.count + 1) (take (length l) (pad 8 blank_anomaly l))) log.engine) (none_listed (keep (applies (effective_of f) f.is_extended) (live log.engine)))

  pub remote_record : (ended : Bool) (s : List ℕ) (h : FrameHeader) → h.is_remote ≡ true → item_of log.count s ≡ Front.frame h
      → step_of ended log s ≡ go_step log 16 [] log.engine
  unfolding step_of
  remote_record ended s h remote front =
      let classic = subst RemoteClassic front (item_remote log.count s) remote in
      ap (item_step ended log s) front
      ∙ remote_step (frame_size h) (frame_at h s) classic remote
      ∙ ap (λ (fd : Bool). go_step log (8 + cond fd 64 8) [] log.engine) classic
