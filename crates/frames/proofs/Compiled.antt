-- A compiled call on an engine, and a run of them. All that is known of what a call returns is its promise: `Learnt` is what the checker makes of the
-- `ensures` in the code, for any caller to use. So a run says nothing that the code does not promise, and a promise that changes changes it.
-- Assumes nothing.
use mathlib.Core.Path.{◌≡◌, refl, ap, ◌∙◌, subst}
use mathlib.Core.Bool.{false}
use mathlib.Core.List.{List, [], ◌∷◌}
use Prim.Native.Nat.{ℕ}
use contract.Lifetimes.{Lfts}
use denote.Ref.{Bor}
use Rattle.conversion.specs.declared.SignalDefinition.{SignalDefinition}
use Rattle.table.specs.declared.Defined.{Defined}
use Rattle.table.specs.declared.SignalIdsEngine.{SignalIdsEngine}
use Rattle.table.specs.Calls.{defines, batches, removes}
use Rattle.table.proofs.SignalIdsEngine.define_signal.Reads as define-signal
use Rattle.table.proofs.SignalIdsEngine.define_signals_batch.Reads as define-signals-batch
use Rattle.table.proofs.SignalIdsEngine.remove_signal.Reads as remove-signal
use Rattle.table.proofs.SignalIdsEngine.signal_count.Reads as signal-count
use Rattle.table.proofs.SignalIdsEngine.next_slot.Reads as next-slot
use Rattle.frames.specs.declared.FrameHeader.{FrameHeader}
use Rattle.frames.specs.declared.CanFrame.{CanFrame}
use Rattle.frames.specs.declared.Processed.{Processed}
use Rattle.frames.specs.Frames.{frame_with, Answered, result_means, Framed, processed, processed_frame}
use Rattle.frames.specs.Isolation.{Call, tabled, count_asked, next_asked, framed, raw_framed, Said, gave_slot, gave_nothing, number, saw, said, after, answers, ran}
use Rattle.frames.proofs.Determined.{processed_for, result_has, framed_has}
use Rattle.frames.proofs.process_frame.Reads as process-frame
use Rattle.frames.proofs.process_lent_frame.Reads as process-lent-frame
use Rattle.frames.proofs.process_raw_frame.Reads as process-raw-frame

-- ---- one call: the compiled call may answer so and leave this engine
pub data Compiled : SignalIdsEngine → Call → Said → SignalIdsEngine → Type 0 where
  defining : (κs : Lfts 0) (e : SignalIdsEngine) (d : SignalDefinition) (r : Defined ℕ) (x : _) → define-signal.Learnt κs (e, (d, tt)) r x
      → Compiled e (tabled (defines d)) (gave_slot r.answer) r.engine
  batching : (κs : Lfts 0) (e : SignalIdsEngine) (ds : List SignalDefinition) (n : ℕ) (r : Defined Unit) (x : _) → define-signals-batch.Learnt κs (e, (ds, (n, tt))) r x
      → Compiled e (tabled (batches ds n)) (gave_nothing r.answer) r.engine
  removing : (κs : Lfts 0) (e : SignalIdsEngine) (s : ℕ) (r : Defined Unit) (x : _) → remove-signal.Learnt κs (e, (s, tt)) r x
      → Compiled e (tabled (removes s)) (gave_nothing r.answer) r.engine
  counting : (κs : Lfts 0) (e : SignalIdsEngine) (n : ℕ) (x : _) → signal-count.Learnt κs (e, tt) n x → Compiled e count_asked (number n) e
  asking : (κs : Lfts 0) (e : SignalIdsEngine) (n : ℕ) (x : _) → next-slot.Learnt κs (e, tt) n x → Compiled e next_asked (number n) e
  framing : (κs : Lfts 0) (e : SignalIdsEngine) (f : CanFrame) (r : Processed) (x : _) → process-frame.Learnt κs (e, (f, tt)) r x
      → Compiled e (framed f) (saw (result_means r.result)) r.engine
  -- a frame whose data bytes are lent is a frame that has them
  lent_framing : (κs : Lfts 1) (e : SignalIdsEngine) (h : FrameHeader) (bytes : Bor (List ℕ)) (r : Processed) (x : _)
      → process-lent-frame.Learnt κs (e, (h, (bytes, tt))) r x
      → Compiled e (framed (frame_with h bytes.now)) (saw (result_means r.result)) r.engine
  raw_framing : (κs : Lfts 1) (e : SignalIdsEngine) (id : ℕ) (bytes : Bor (List ℕ)) (n : ℕ) (r : Processed) (x : _)
      → process-raw-frame.Learnt κs (e, (id, (bytes, (n, tt)))) r x
      → Compiled e (raw_framed id bytes.now n) (saw (result_means r.result)) r.engine

-- it is what the definitions say
pub compiled_says : {e u : SignalIdsEngine} {c : Call} {a : Said} → Compiled e c a u → (a ≡ said e c) × (u ≡ after e c)
compiled_says (defining κs e d r x h) = (ap (λ (q : Defined ℕ). gave_slot q.answer) h, ap (λ (q : Defined ℕ). q.engine) h)
compiled_says (batching κs e ds n r x h) = (ap (λ (q : Defined Unit). gave_nothing q.answer) h, ap (λ (q : Defined Unit). q.engine) h)
compiled_says (removing κs e s r x h) = (ap (λ (q : Defined Unit). gave_nothing q.answer) h, ap (λ (q : Defined Unit). q.engine) h)
compiled_says (counting κs e n x h) = (ap number h, refl)
compiled_says (asking κs e n x h) = (ap number h, refl)
compiled_says (framing κs e f r x h) = (ap (λ (q : Framed). saw q.result) h, ap (λ (q : Framed). q.engine) h)
compiled_says (lent_framing κs e h bytes r x p) = (ap (λ (q : Framed). saw q.result) p, ap (λ (q : Framed). q.engine) p)
compiled_says (raw_framing κs e id bytes n r x h) = (ap (λ (q : Framed). saw q.result) h, ap (λ (q : Framed). q.engine) h)

-- and each call has such an answer
lent : List ℕ → Bor (List ℕ)
lent s = record { ref_ptr = (0, 0); now = s }

-- a frame is answered with whatever means what its promise says
seen : {e : SignalIdsEngine} {c : Call} (f : Framed) → Compiled e c (saw (result_means (processed_for f).result)) f.engine → Compiled e c (saw f.result) f.engine
seen {e} {c} f = subst (λ (a : Answered). Compiled e c (saw a) f.engine) (result_has f)

pub compiled : (e : SignalIdsEngine) (c : Call) → Compiled e c (said e c) (after e c)
unfolding lent
compiled e (tabled (defines d)) = defining tt e d _ (e, (d, tt)) refl
compiled e (tabled (batches ds n)) = batching tt e ds n _ (e, (ds, (n, tt))) refl
compiled e (tabled (removes s)) = removing tt e s _ (e, (s, tt)) refl
compiled e count_asked = counting tt e _ (e, tt) refl
compiled e next_asked = asking tt e _ (e, tt) refl
compiled e (framed f) = let p = processed_frame e f in seen p (framing tt e f (processed_for p) (e, (f, tt)) (framed_has p))
compiled e (raw_framed id s n) =
    let p = processed e id false s n in
    seen p (raw_framing ([], tt) e id (lent s) n (processed_for p) (e, (id, (lent s, (n, tt)))) (framed_has p))

-- so has a frame whose data bytes are lent
pub compiled_lent : (e : SignalIdsEngine) (h : FrameHeader) (s : List ℕ) → Compiled e (framed (frame_with h s)) (said e (framed (frame_with h s))) (after e (framed (frame_with h s)))
unfolding lent
compiled_lent e h s = let p = processed_frame e (frame_with h s) in seen p (lent_framing ([], tt) e h (lent s) (processed_for p) (e, (h, (lent s, tt))) (framed_has p))

-- ---- a run: each call takes the engine that the one before it left
pub data Run : SignalIdsEngine → List Call → List Said → SignalIdsEngine → Type 0 where
  ended : (e : SignalIdsEngine) → Run e [] [] e
  step : {e u z : SignalIdsEngine} {c : Call} {a : Said} {cs : List Call} {heard : List Said} → Compiled e c a u → Run u cs heard z → Run e (c ∷ cs) (a ∷ heard) z

-- it is the run of the functions that the promises cite
pub runs_follow : {e z : SignalIdsEngine} {cs : List Call} {heard : List Said} → Run e cs heard z → (heard ≡ answers e cs) × (z ≡ ran e cs)
runs_follow (ended e) = (refl, refl)
runs_follow (step {e} {u} {z} {c} {a} {cs} {heard} made run) =
    let one = compiled_says made in
    let rest = runs_follow run in
    (ap (λ (l : List Said). a ∷ l) rest.0 ∙ ap (λ (q : SignalIdsEngine). a ∷ answers q cs) one.1 ∙ ap (λ (b : Said). b ∷ answers (after e c) cs) one.0, rest.1 ∙ ap (λ (q : SignalIdsEngine). ran q cs) one.1)

-- and there is one for any calls
pub runs : (cs : List Call) (e : SignalIdsEngine) → Run e cs (answers e cs) (ran e cs)
runs [] e = ended e
runs (c ∷ cs) e = step (compiled e c) (runs cs (after e c))
