-- One record: how many bytes it takes, and how much it prints. Assumes nothing.
use mathlib.Core.Path.{◌≡◌, refl, sym, ◌∙◌, ap, subst}
use mathlib.Core.Bool.{Bool, true, false, cond, true≢false}
use mathlib.Core.List.{List, []}
use mathlib.Core.Logic.{◌⊎◌, inl, inr}
use Prim.Native.Nat.{ℕ, ◌+◌, ◌^◌, ◌<◌, ◌≤◌, min}
use native.Mathlib.Omega.{arith}
use native.Mathlib.Decide.{dec_le}
use lib.ListN.{length, take, get_or, length-take}
use lib.Dec.{ltb, leb, eqb}
use borrow.Author.Tests.{ltb-false, eqb-false}
use Rattle.table.specs.declared.SignalIdsEngine.{SignalIdsEngine}
use Rattle.table.specs.declared.TableError.{TableError}
use Rattle.table.specs.Table.{error_number}
use Rattle.frames.specs.declared.CanFrame.{CanFrame}
use Rattle.std.specs.Prelude.{Option, Some, None, Result, Ok, Err}
use Rattle.can_log.specs.declared.decode.Mark.{Mark}
use Rattle.can_log.specs.declared.decode.Request.{Request}
use Rattle.can_log.specs.declared.stream.Log.{Log}
use Rattle.can_log.specs.declared.stream.Step.{Step}
use Rattle.can_log.specs.Records.{Front, request_means, item_of, marked, mark_of, size_of, misplaced, record_of, settings_of, define_of, remove_of, frame_of, classic_header, fd_length, fd_header, fd_frame_of, bad_flags, definition_of, le16}
use Rattle.can_log.specs.Lines.{slot_answer, done_answer, Put, ascii}
use Rattle.can_log.specs.Output.{Standing, status_means, created_by, defined_by, removed_by, processed_by, frame_size, frame_at, Move, item_step, step_of, settled_step, request_step, frame_step, go_step, stop_step, wait_step, last_number, goes_on, waiting}
use Rattle.can_log.specs.Pieces.{Does, after, sound_of}
use Rattle.can_log.proofs.Texts.{line-length, answer_length, lines-length}
use Rattle.can_log.proofs.Below.{few}

-- a choice has what both sides have
pub choose : {A : Type 0} (P : A → Type 0) (b : Bool) (x y : A) → (b ≡ true → P x) → (b ≡ false → P y) → P (cond b x y)
choose P true x y p q = p refl
choose P false x y p q = q refl

-- ---- how many bytes an item takes: 0 if the log does not go on

abbrev pub taken : Front → ℕ
taken Front.incomplete = 0
taken (Front.fault k) = 0
taken (Front.settings a t) = 10
taken (Front.definition d) = 24
taken (Front.removal k) = 4
taken (Front.frame h) = frame_size h

stop_or : (k m : ℕ) (b : Bool) (i : Front) → taken i ≤ m → taken (cond b (Front.fault k) i) ≤ m
stop_or k m true i h = omega arith
stop_or k m false i h = h

record_taken : (s : List ℕ) (k : Option Mark) → taken (record_of s k) ≤ size_of k
unfolding settings_of define_of remove_of frame_of fd_frame_of
record_taken s (Some Mark.Settings) = omega arith
record_taken s (Some Mark.Definition) = stop_or 13 24 (bad_flags (get_or s 6 0) (le16 s 22)) (Front.definition (definition_of s (get_or s 6 0))) (omega arith)
record_taken s (Some Mark.Removal) = omega arith
record_taken s (Some Mark.Frame) =
    let i = Front.frame (classic_header s) in
    stop_or 13 16 (leb 4 (get_or s 2 0)) (cond (ltb 15 (get_or s 3 0)) (Front.fault 14) i) (stop_or 14 16 (ltb 15 (get_or s 3 0)) i (omega arith))
record_taken s (Some Mark.FdFrame) =
    let i = cond (fd_length (get_or s 3 0)) (Front.frame (fd_header s)) (Front.fault 14) in
    stop_or 13 72 (leb 2 (get_or s 2 0)) i (choose (λ (x : Front). taken x ≤ 72) (fd_length (get_or s 3 0)) _ _ (λ _. omega arith) (λ _. omega arith))
record_taken s None = omega arith

marked_taken : (n : ℕ) (s : List ℕ) (k : Option Mark) → taken (marked n s k) ≤ length s
marked_taken n s k =
    choose (λ (i : Front). taken i ≤ length s) (ltb (length s) (size_of k)) _ _ (λ _. omega arith)
    (λ e. choose (λ (i : Front). taken i ≤ length s) (misplaced n k) _ _ (λ _. omega arith)
    (λ _. omega (arith, ltb-false (length s) (size_of k) e, record_taken (take (size_of k) s) k)))

-- it takes them from the bytes at hand
pub item_taken : (n : ℕ) (s : List ℕ) → taken (item_of n s) ≤ length s
unfolding item_of
item_taken n s =
    choose (λ (i : Front). taken i ≤ length s) (eqb (length s) 0) _ _ (λ _. omega arith)
    (λ _. choose (λ (i : Front). taken i ≤ length s) (eqb n 4294967295) _ _ (λ _. omega arith)
    (λ _. choose (λ (i : Front). taken i ≤ length s) (eqb (length s) 1) _ _ (λ _. omega arith) (λ _. marked_taken n s (mark_of (get_or s 0 0) (get_or s 1 0)))))

-- a record is taken only below the last count
below : (n : ℕ) (s : List ℕ) → 1 ≤ taken (item_of n s) → n ≡ 4294967295 → ⊥
unfolding item_of
below n s =
    choose (λ (i : Front). 1 ≤ taken i → n ≡ 4294967295 → ⊥) (eqb (length s) 0) _ _ (λ _ h _. omega arith)
    (λ _. choose (λ (i : Front). 1 ≤ taken i → n ≡ 4294967295 → ⊥) (eqb n 4294967295) _ _ (λ _ h _. omega arith)
    (λ e _ h. eqb-false n 4294967295 e h))

module _ (n : ℕ) (s : List ℕ) (i j : Front) (p : i ≡ item_of n s) (q : i ≡ j) where
  -- an item that takes bytes: they are there, and the count is below its last
  pub has : taken j ≤ length s
  has = subst (λ (x : Front). taken x ≤ length s) (sym p ∙ q) (item_taken n s)

  pub counts_on : n < 2 ^ 32 → 1 ≤ taken j → n < 4294967295
  counts_on f h =
      let k : n ≡ 4294967295 → ⊥ = below n s (subst (λ (x : Front). 1 ≤ taken x) (sym q ∙ p) h) in
      omega arith

pub asks : (q : Request) → 1 ≤ taken (request_means q)
asks (Request.Settings a t) = omega arith
asks (Request.Define d) = omega arith
asks (Request.Remove k) = omega arith

-- ---- the steps of the code

-- the same move under another name
pub does : {d e : List ℕ} {at : ℕ} {m n : Move} {r : Step} → m ≡ n → Does d at m r e → Does d at n r e
does {d} {e} {at} {m} {n} {r} q p = subst (λ (x : Move). Does d at x r e) q p

-- the same answer under another name
pub told : {d e : List ℕ} {at : ℕ} {m : Move} {r q : Step} → r ≡ q → Does d at m q e → Does d at m r e
told {d} {e} {at} {m} {r} {q} w p = subst (λ (x : Step). Does d at m x e) (sym w) p

pub at_item : (ended : Bool) (log : Log) (s : List ℕ) (i j : Front) → i ≡ item_of log.count s → i ≡ j → item_step ended log s j ≡ step_of ended log s
unfolding step_of
at_item ended log s i j p q = ap (item_step ended log s) (sym q ∙ p)

-- a record for the table does the same before any bytes
pub at_request : (ended : Bool) (log : Log) (s : List ℕ) (q : Request) → request_step log (request_means q) ≡ item_step ended log s (request_means q)
at_request ended log s (Request.Settings a t) = refl
at_request ended log s (Request.Define d) = refl
at_request ended log s (Request.Remove k) = refl

-- a sound record: its answer, and its text in the buffer
pub sounds : {d e : List ℕ} {at n end : ℕ} (log : Log) {text : List ℕ} {g : SignalIdsEngine} {r : Step} → r ≡ sound_of log g n end → Put d at text end e
    → Does d at (go_step log n text g) r e
sounds {d} {e} {at} {n} {end} log {text} {g} {r} q p =
    record {
      log = ap (λ (x : Step). x.log) q;
      used = ap (λ (x : Step). x.used) q;
      put = subst (λ (k : ℕ). Put d at text k e) (sym (ap (λ (x : Step). x.end) q)) p;
      status = ap (λ (x : Step). status_means x.status) q;
    }

pub at_end_lem : (used : ℕ) (log : Log) (ended : Bool) (left k : ℕ) → ended ≡ true → k ≡ last_number left → after used (stop_step log k) ≡ after used (wait_step ended log left)
at_end_lem used log ended left k p q = rw (p, q) refl

-- ---- what a step may be: it waits, which it does only before the input's end, or it is the last, or it takes bytes
abbrev pub Kinds : Bool → Log → Move → Type 0
Kinds ended log m = ((m ≡ waiting log) × (ended ≡ false)) ⊎ ((m.status ≡ Standing.stopped) ⊎ ((m.status ≡ Standing.goes) × (1 ≤ m.used)))

-- and what it takes, prints and counts, of an item of n bytes
record Bounds (ended : Bool) (log : Log) (n : ℕ) (m : Move) : Type 0 where
  pub kind : Kinds ended log m
  pub takes : m.used ≤ n
  pub prints : length m.text ≤ 512
  pub counts : m.log.count ≤ log.count + min 1 n

module _ (ended : Bool) (log : Log) where
  sound_bounds : (n : ℕ) (text : List ℕ) (e : SignalIdsEngine) → 1 ≤ n → length text ≤ 512 → Bounds ended log n (go_step log n text e)
  sound_bounds n text e h l = record { kind = inr (inr (refl, h)); takes = omega arith; prints = l; counts = omega arith }

  stop_bounds : (n k : ℕ) → Bounds ended log n (stop_step log k)
  stop_bounds n k = record { kind = inr (inl refl); takes = omega arith; prints = omega (arith, line-length (ascii "end ") log.count (ascii " ") k); counts = omega arith }

  settled_bounds : (e : SignalIdsEngine) (a : Result Unit TableError) → Bounds ended log 10 (settled_step log e a)
  settled_bounds e (Ok done) = sound_bounds 10 [] e (omega arith) (omega arith)
  settled_bounds e (Err k) = stop_bounds 10 (error_number k)

  frame_bounds : (size : ℕ) → 1 ≤ size → (f : CanFrame) → Bounds ended log size (frame_step log size f)
  frame_bounds size some f =
      let r = processed_by log.engine f in
      let n = r.result.anomaly_count in
      sound_bounds size _ _ some (omega (arith, lines-length (log.count + 1) (take n r.result.anomalies), length-take n r.result.anomalies, few log.engine f))

item_bounds : (ended : Bool) (log : Log) (s : List ℕ) (i : Front) → Bounds ended log (taken i) (item_step ended log s i)
item_bounds true log s Front.incomplete = stop_bounds true log 0 (last_number (length s))
item_bounds false log s Front.incomplete = record { kind = inl (refl, refl); takes = omega arith; prints = omega arith; counts = omega arith }
item_bounds ended log s (Front.fault k) = stop_bounds ended log 0 k
item_bounds ended log s (Front.settings a t) = settled_bounds ended log (created_by a t).engine (created_by a t).answer
item_bounds ended log s (Front.definition d) =
    sound_bounds ended log 24 _ _ (omega arith) (omega (arith, answer_length (ascii "D ") (log.count + 1) (slot_answer (defined_by log.engine d).answer)))
item_bounds ended log s (Front.removal k) =
    sound_bounds ended log 4 _ _ (omega arith) (omega (arith, answer_length (ascii "R ") (log.count + 1) (done_answer (removed_by log.engine k).answer)))
item_bounds ended log s (Front.frame h) = frame_bounds ended log (frame_size h) (omega arith) (frame_at h s)

step_bounds : (ended : Bool) (log : Log) (s : List ℕ) → Bounds ended log (taken (item_of log.count s)) (step_of ended log s)
unfolding step_of
step_bounds ended log s = item_bounds ended log s (item_of log.count s)

pub step_kinds : (ended : Bool) (log : Log) (s : List ℕ) → Kinds ended log (step_of ended log s)
step_kinds ended log s = (step_bounds ended log s).kind

-- the room suffices for its text
pub step_length : (ended : Bool) (log : Log) (s : List ℕ) → length (step_of ended log s).text ≤ 512
step_length ended log s = (step_bounds ended log s).prints

-- no step takes more bytes than there are
pub step_used : (ended : Bool) (log : Log) (s : List ℕ) → (step_of ended log s).used ≤ length s
step_used ended log s = omega (arith, (step_bounds ended log s).takes, item_taken log.count s)

-- a step that goes on takes bytes that are there
pub going : (ended : Bool) (log : Log) (s : List ℕ) → goes_on (step_of ended log s).status ≡ true → (1 ≤ (step_of ended log s).used) × ((step_of ended log s).used ≤ length s)
going ended log s h = (go (step_kinds ended log s), step_used ended log s)
  where
    go : Kinds ended log (step_of ended log s) → 1 ≤ (step_of ended log s).used
    go (inl q) = absurd (true≢false (sym h ∙ ap (λ (m : Move). goes_on m.status) q.0))
    go (inr (inl q)) = absurd (true≢false (sym h ∙ ap goes_on q))
    go (inr (inr w)) = w.1

-- the number of sound records fits its type
pub step_count : (ended : Bool) (log : Log) (s : List ℕ) → log.count < 2 ^ 32 → (step_of ended log s).log.count < 2 ^ 32
step_count ended log s h = go (dec_le 1 (taken (item_of log.count s)))
  where
    go : Dec (1 ≤ taken (item_of log.count s)) → (step_of ended log s).log.count < 2 ^ 32
    go (yes k) = omega (arith, (step_bounds ended log s).counts, counts_on log.count s (item_of log.count s) (item_of log.count s) refl refl h k)
    go (no k) = omega (arith, (step_bounds ended log s).counts, k)
