-- Document 02, T-05: every old log prints what it printed, and a tool from before this request stops at A5 58 with 10 and shows nothing after it.
-- First the rules from before, by document 01 and T-01, where they differ: A5 58 is no mark, and a frame has eight data bytes; what any other record says and
-- does is today's, and so is what a sample does to a detector, which T-06 has amended since. Then the theorems: `as_before` for an input in which no record
-- begins with A5 58, and `stopped_before` for any other.
-- Assumes nothing.
use mathlib.Core.Path.{◌≡◌, refl, sym, ◌∙◌, ap}
use mathlib.Core.Bool.{Bool, true, false, cond, ◌&&◌, true≢false}
use mathlib.Core.List.{List, [], ◌∷◌, ◌++◌, append_assoc, append-nil}
use mathlib.Core.Logic.{◌⊎◌, inl, inr}
use Prim.Native.Nat.{ℕ, zero, suc, ◌+◌, ◌%◌, ◌<◌, min}
use native.Mathlib.Omega.{arith}
use lib.Dec.{eqb, ltb, leb}
use lib.ListN.{length, get_or, take, drop, length-drop}
use borrow.Author.Tests.{eqb-true, eq-eqb, ne_eqb, le-ltb}
use Rattle.detector.proofs.Told.{and_other}
use Rattle.table.specs.declared.SignalIdsEngine.{SignalIdsEngine}
use Rattle.frames.specs.declared.FrameHeader.{FrameHeader}
use Rattle.frames.specs.Frames.{effective_of, Framed, processed}
use Rattle.std.specs.Prelude.{Option, Some, None}
use Rattle.can_log.specs.declared.decode.Mark.{Mark}
use Rattle.can_log.specs.declared.stream.Log.{Log}
use Rattle.can_log.specs.Records.{Front, item_of, marked, mark_of, size_of, misplaced, record_of, settings_of, define_of, remove_of, frame_of, bad_flags, le16}
use Rattle.can_log.specs.Lines.{anomaly_lines, end_line}
use Rattle.can_log.specs.Output.{start_of, Move, processed_by, go_step, stop_step, frame_step, frame_size, frame_at, item_step, step_of, goes_on, run, output_from, output}
use Rattle.can_log.proofs.Steps.{choose, going}
use Rattle.can_log.proofs.Runs.{when, run_fuel}

-- ---- the rules from before
abbrev pub mark_before : ℕ → ℕ → Option Mark
mark_before a b =
    cond (eqb a 0xA5)
    (cond (eqb b 0x50) (Some Mark.Settings)
    (cond (eqb b 0x44) (Some Mark.Definition)
    (cond (eqb b 0x52) (Some Mark.Removal)
    (cond (eqb b 0x46) (Some Mark.Frame) None)))) None

abbrev pub item_before : ℕ → List ℕ → Front
item_before n s =
    cond (eqb (length s) 0) Front.incomplete
    (cond (eqb n 4294967295) (Front.fault 15)
    (cond (eqb (length s) 1) Front.incomplete
    (marked n s (mark_before (get_or s 0 0) (get_or s 1 0)))))

-- a frame: its eight data bytes, of which those count that its length says, at most 8, and none of a remote one
abbrev pub framed_before : SignalIdsEngine → FrameHeader → List ℕ → Framed
framed_before e h s =
    processed e (cond h.is_extended (h.id % 0x20000000) (h.id % 0x800)) h.is_extended (take 8 (drop 8 s)) (cond h.is_remote 0 (min h.length 8))

abbrev pub frame_step_before : Log → FrameHeader → List ℕ → Move
frame_step_before log h s =
    let r = framed_before log.engine h s in
    go_step log 16 (anomaly_lines (log.count + 1) (take r.result.anomaly_count r.result.anomalies)) r.engine

-- a frame's record does this; what any other does has not changed
abbrev pub item_step_before : Log → List ℕ → Front → Move
item_step_before log s Front.incomplete = item_step true log s Front.incomplete
item_step_before log s (Front.fault k) = item_step true log s (Front.fault k)
item_step_before log s (Front.settings a t) = item_step true log s (Front.settings a t)
item_step_before log s (Front.definition d) = item_step true log s (Front.definition d)
item_step_before log s (Front.removal k) = item_step true log s (Front.removal k)
item_step_before log s (Front.frame h) = frame_step_before log h s

abbrev pub step_before : Log → List ℕ → Move
step_before log s = item_step_before log s (item_before log.count s)

unfoldable pub run_before : ℕ → Log → List ℕ → List ℕ
run_before zero log s = []
run_before (suc f) log s = let m = step_before log s in m.text ++ cond (goes_on m.status) (run_before f m.log (drop m.used s)) []

abbrev pub output_before : List ℕ → List ℕ
output_before s = run_before (suc (length s)) start_of s

-- ---- the bytes begin with A5 58
abbrev pub begins_fd : List ℕ → Bool
begins_fd s = eqb (get_or s 0 0) 0xA5 && eqb (get_or s 1 0) 0x58

-- no record does: neither the one at the front nor, as far as the log goes on, one behind it
abbrev pub NoneFd : ℕ → Log → List ℕ → Type 0
NoneFd zero log s = Unit {0}
NoneFd (suc f) log s = (begins_fd s ≡ false) × (goes_on (step_of true log s).status ≡ true → NoneFd f (step_of true log s).log (drop (step_of true log s).used s))

-- ---- one record that does not begin so
same_mark : (a b : ℕ) → (eqb a 0xA5 && eqb b 0x58) ≡ false → mark_of a b ≡ mark_before a b
unfolding mark_of
same_mark a b h = go (eqb a 0xA5) (eqb b 0x58) h
  where
    go : (x y : Bool) → (x && y) ≡ false
        → cond x (cond (eqb b 0x50) (Some Mark.Settings) (cond (eqb b 0x44) (Some Mark.Definition) (cond (eqb b 0x52) (Some Mark.Removal) (cond (eqb b 0x46) (Some Mark.Frame) (cond y (Some Mark.FdFrame) None))))) None
        ≡ cond x (cond (eqb b 0x50) (Some Mark.Settings) (cond (eqb b 0x44) (Some Mark.Definition) (cond (eqb b 0x52) (Some Mark.Removal) (cond (eqb b 0x46) (Some Mark.Frame) None)))) None
    go true true k = absurd (true≢false k)
    go true false k = refl
    go false y k = refl

same_item : (n : ℕ) (s : List ℕ) → begins_fd s ≡ false → item_of n s ≡ item_before n s
unfolding item_of
same_item n s h =
    ap (λ (k : Option Mark). cond (eqb (length s) 0) Front.incomplete (cond (eqb n 4294967295) (Front.fault 15) (cond (eqb (length s) 1) Front.incomplete (marked n s k))))
    (same_mark (get_or s 0 0) (get_or s 1 0) h)

-- what was a frame is a classic one
abbrev Classic : Front → Type 0
Classic Front.incomplete = Unit {0}
Classic (Front.fault k) = Unit {0}
Classic (Front.settings a t) = Unit {0}
Classic (Front.definition d) = Unit {0}
Classic (Front.removal k) = Unit {0}
Classic (Front.frame h) = h.is_fd ≡ false

abbrev NotFd : Option Mark → Type 0
NotFd (Some Mark.Settings) = Unit {0}
NotFd (Some Mark.Definition) = Unit {0}
NotFd (Some Mark.Removal) = Unit {0}
NotFd (Some Mark.Frame) = Unit {0}
NotFd (Some Mark.FdFrame) = ⊥
NotFd None = Unit {0}

mark_before_lem : (a b : ℕ) → NotFd (mark_before a b)
mark_before_lem a b =
    choose NotFd (eqb a 0xA5) _ _
    (λ _. choose NotFd (eqb b 0x50) _ _ (λ _. tt)
    (λ _. choose NotFd (eqb b 0x44) _ _ (λ _. tt)
    (λ _. choose NotFd (eqb b 0x52) _ _ (λ _. tt)
    (λ _. choose NotFd (eqb b 0x46) _ _ (λ _. tt) (λ _. tt))))) (λ _. tt)

classic_record : (s : List ℕ) (k : Option Mark) → NotFd k → Classic (record_of s k)
unfolding settings_of define_of remove_of frame_of
classic_record s (Some Mark.Settings) w = tt
classic_record s (Some Mark.Definition) w = choose Classic (bad_flags (get_or s 6 0) (le16 s 22)) _ _ (λ _. tt) (λ _. tt)
classic_record s (Some Mark.Removal) w = tt
classic_record s (Some Mark.Frame) w = choose Classic (leb 4 (get_or s 2 0)) _ _ (λ _. tt) (λ _. choose Classic (ltb 15 (get_or s 3 0)) _ _ (λ _. tt) (λ _. refl))
classic_record s (Some Mark.FdFrame) w = absurd w
classic_record s None w = tt

classic_item : (n : ℕ) (s : List ℕ) → Classic (item_before n s)
classic_item n s =
    let k = mark_before (get_or s 0 0) (get_or s 1 0) in
    choose Classic (eqb (length s) 0) _ _ (λ _. tt)
    (λ _. choose Classic (eqb n 4294967295) _ _ (λ _. tt)
    (λ _. choose Classic (eqb (length s) 1) _ _ (λ _. tt)
    (λ _. choose Classic (ltb (length s) (size_of k)) _ _ (λ _. tt)
    (λ _. choose Classic (misplaced n k) _ _ (λ _. tt) (λ _. classic_record (take (size_of k) s) k (mark_before_lem (get_or s 0 0) (get_or s 1 0)))))))

-- and is answered as before
same_frame : (log : Log) (s : List ℕ) (h : FrameHeader) → h.is_fd ≡ false → frame_step log (frame_size h) (frame_at h s) ≡ frame_step_before log h s
unfolding processed_by effective_of
same_frame log s h classic =
    ap (λ (b : Bool). let g : FrameHeader = record { id = h.id; is_extended = h.is_extended; is_remote = h.is_remote; is_fd = b; length = h.length } in frame_step log (frame_size g) (frame_at g s)) classic

same_item_step : (log : Log) (s : List ℕ) (i : Front) → Classic i → item_step true log s i ≡ item_step_before log s i
same_item_step log s Front.incomplete c = refl
same_item_step log s (Front.fault k) c = refl
same_item_step log s (Front.settings a t) c = refl
same_item_step log s (Front.definition d) c = refl
same_item_step log s (Front.removal k) c = refl
same_item_step log s (Front.frame h) c = same_frame log s h c

same_step : (log : Log) (s : List ℕ) → item_of log.count s ≡ item_before log.count s → step_of true log s ≡ step_before log s
unfolding step_of
same_step log s q =
    ap (item_step true log s) q ∙ same_item_step log s (item_before log.count s) (classic_item log.count s)

-- ---- THE FIRST THEOREM: an input in which no record begins with A5 58 is decoded as before
same-run : (f : ℕ) (log : Log) (s : List ℕ) → NoneFd f log s → run f log s ≡ run_before f log s
unfolding run run_before
same-run zero log s none = refl
same-run (suc f) log s none =
    let m = step_of true log s in
    ap (λ (t : List ℕ). m.text ++ t)
    (when (goes_on m.status) (run f m.log (drop m.used s)) (run_before f m.log (drop m.used s)) [] (λ g. same-run f m.log (drop m.used s) (none.1 g)))
    ∙ ap (λ (x : Move). x.text ++ cond (goes_on x.status) (run_before f x.log (drop x.used s)) []) (same_step log s (same_item log.count s none.0))

pub as_before : (s : List ℕ) → NoneFd (suc (length s)) start_of s → output s ≡ output_before s
as_before s none = same-run (suc (length s)) start_of s none

-- after the last count both stop with 15, whatever follows
same_last : (n : ℕ) (s : List ℕ) → n ≡ 4294967295 → item_of n s ≡ item_before n s
unfolding item_of
same_last n s q = rw (eq-eqb n 4294967295 q) refl

pub last_same : (log : Log) (s : List ℕ) → log.count ≡ 4294967295 → step_of true log s ≡ step_before log s
last_same log s q = same_step log s (same_last log.count s q)

-- ---- THE SECOND THEOREM: before that, where a record begins with A5 58, the rules from before stop with 10, whether it is whole or cut
pub stops_there : (log : Log) (s : List ℕ) → begins_fd s ≡ true → (log.count ≡ 4294967295 → ⊥) → step_before log s ≡ stop_step log 10
stops_there log [] h few = absurd (true≢false (sym h))
stops_there log (a ∷ []) h few = absurd (true≢false (sym h ∙ and_other (eqb a 0xA5) refl))
stops_there log (a ∷ b ∷ s) h few = ap (item_step_before log (a ∷ b ∷ s)) fault
  where
    unknown : (x : Bool) → eqb a 0xA5 ≡ x → (y : Bool) → eqb b 0x58 ≡ y → (x && y) ≡ true → mark_before a b ≡ None
    unknown false p y q k = absurd (true≢false (sym k))
    unknown true p false q k = absurd (true≢false (sym k))
    unknown true p true q k = rw (eqb-true a 0xA5 p, eqb-true b 0x58 q) refl

    fault : item_before log.count (a ∷ b ∷ s) ≡ Front.fault 10
    fault =
        rw (
          ne_eqb (length (a ∷ b ∷ s)) 0 (λ z. omega arith),
          ne_eqb log.count 4294967295 few,
          ne_eqb (length (a ∷ b ∷ s)) 1 (λ z. omega arith),
          unknown (eqb a 0xA5) refl (eqb b 0x58) refl h,
          le-ltb (length (a ∷ b ∷ s)) 2 (omega arith),
        ) refl

-- the first record that begins so: the bytes t at the log `there`, behind records that do not begin so, go on, and print the text
pub data FirstFd : Log → List ℕ → List ℕ → Log → List ℕ → Type 0 where
  here : {log : Log} {s : List ℕ} → begins_fd s ≡ true → FirstFd log s [] log s
  next : {log there : Log} {s t text : List ℕ} → begins_fd s ≡ false → goes_on (step_of true log s).status ≡ true
      → FirstFd (step_of true log s).log (drop (step_of true log s).used s) text there t
      → FirstFd log s ((step_of true log s).text ++ text) there t

-- a record that is the same in both, and goes on
module _ (f : ℕ) (log : Log) (s : List ℕ) (none : begins_fd s ≡ false) (g : goes_on (step_of true log s).status ≡ true) where
  abbrev m : Move
  m = step_of true log s

  abbrev rest : List ℕ
  rest = drop m.used s

  old_on : run_before (suc f) log s ≡ m.text ++ run_before f m.log rest
  unfolding run_before
  old_on =
      ap (λ (x : Move). x.text ++ cond (goes_on x.status) (run_before f x.log (drop x.used s)) []) (sym (same_step log s (same_item log.count s none)))
      ∙ ap (λ (b : Bool). m.text ++ cond b (run_before f m.log rest) []) g

  new_on : run (suc f) log s ≡ m.text ++ run f m.log rest
  unfolding run
  new_on = ap (λ (b : Bool). m.text ++ cond b (run f m.log rest) []) g

  shorter : length s < suc f → length rest < f
  shorter l = omega (arith, length-drop m.used s, going true log s g)

old_stops : (f : ℕ) {log there : Log} {s t text : List ℕ} → FirstFd log s text there t → length s < f → (there.count ≡ 4294967295 → ⊥)
    → run_before f log s ≡ text ++ end_line there.count 10
unfolding run_before
old_stops zero w l few = absurd (omega arith)
old_stops (suc f) {log} {there} {s} (here h) l few =
    ap (λ (x : Move). x.text ++ cond (goes_on x.status) (run_before f x.log (drop x.used s)) []) (stops_there log s h few) ∙ append-nil (end_line log.count 10)
old_stops (suc f) {log} {there} {s} {t} (next {text = text} none g w) l few =
    old_on f log s none g ∙ ap (λ (x : List ℕ). (step_of true log s).text ++ x) (old_stops f w (shorter f log s none g l) few)
    ∙ sym (append_assoc (step_of true log s).text text (end_line there.count 10))

new_goes_on : (f : ℕ) {log there : Log} {s t text : List ℕ} → FirstFd log s text there t → length s < f → run f log s ≡ text ++ output_from there t
new_goes_on zero w l = absurd (omega arith)
new_goes_on (suc f) {log} {there} {s} (here h) l = run_fuel (suc f) (suc (length s)) log s l (omega arith)
new_goes_on (suc f) {log} {there} {s} {t} (next {text = text} none g w) l =
    new_on f log s none g ∙ ap (λ (x : List ℕ). (step_of true log s).text ++ x) (new_goes_on f w (shorter f log s none g l))
    ∙ sym (append_assoc (step_of true log s).text text (output_from there t))

-- so up to the first record that begins with A5 58 both print the same; the tool from before then printed its end line, with 10, and nothing after it, and
-- this one goes on with that record
pub stopped_before : {there : Log} {s t text : List ℕ} → FirstFd start_of s text there t → (there.count ≡ 4294967295 → ⊥)
    → (output_before s ≡ text ++ end_line there.count 10) × (output s ≡ text ++ output_from there t)
stopped_before {there} {s} w few = (old_stops (suc (length s)) w (omega arith) few, new_goes_on (suc (length s)) w (omega arith))

-- and every input has no such record, or a first one
pub record HasFd (log : Log) (s : List ℕ) : Type 0 where
  pub text : List ℕ
  pub there : Log
  pub bytes : List ℕ
  pub first : FirstFd log s text there bytes

none_or_first : (f : ℕ) (log : Log) (s : List ℕ) → NoneFd f log s ⊎ HasFd log s
none_or_first zero log s = inl tt
none_or_first (suc f) log s =
    at (begins_fd s) refl (goes_on (step_of true log s).status) refl (none_or_first f (step_of true log s).log (drop (step_of true log s).used s))
  where
    at : (b : Bool) → begins_fd s ≡ b → (g : Bool) → goes_on (step_of true log s).status ≡ g
        → NoneFd f (step_of true log s).log (drop (step_of true log s).used s) ⊎ HasFd (step_of true log s).log (drop (step_of true log s).used s)
        → NoneFd (suc f) log s ⊎ HasFd log s
    at true h g k later = inr (record { text = []; there = log; bytes = s; first = here h })
    at false h false k later = inl (h, λ z. absurd (true≢false (sym z ∙ k)))
    at false h true k (inl none) = inl (h, λ z. none)
    at false h true k (inr w) = inr (record { text = _; there = w.there; bytes = w.bytes; first = next h k w.first })

pub none_or_some : (s : List ℕ) → NoneFd (suc (length s)) start_of s ⊎ HasFd start_of s
none_or_some s = none_or_first (suc (length s)) start_of s
