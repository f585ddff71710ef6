-- Document 02, T-06, for the engine: after any run of compiled calls from `new`, table calls and frames, the mean of each live definition's detector is finite,
-- and so are those in unused places and in the settings. Each call keeps that, whoever made the engine. Assumes nothing.
use mathlib.Core.Path.{◌≡◌, refl, sym, subst}
use mathlib.Core.Bool.{Bool, true, false, cond}
use mathlib.Core.List.{List, [], ◌∷◌, map}
use Prim.Native.Nat.{ℕ, zero, suc, ◌+◌, ◌-◌}
use Rattle.std.proofs.Common.{Option}
use lib.Ieee.{Float}
use lib.ListN.{length, take, drop, replicate}
use contract.Lifetimes.{Lfts}
use Rattle.conversion.specs.declared.SignalDefinition.{SignalDefinition}
use Rattle.conversion.specs.Extract.{Measured, measured, unmeasured, signal_of}
use Rattle.detector.specs.declared.EwmaDetector.{EwmaDetector}
use Rattle.detector.specs.Answers.{Configured, configured, unconfigured}
use Rattle.detector.specs.Ewma.{idle, made_of}
use Rattle.detector.specs.Calls.{takes, or_as_it_was}
use Rattle.detector.proofs.Means.{FiniteMean, settings_finite}
use Rattle.detector.proofs.Means as detector
use Rattle.table.specs.declared.Signal.{Signal}
use Rattle.table.specs.declared.Entry.{Entry}
use Rattle.table.specs.declared.Defined.{Defined}
use Rattle.table.specs.declared.SignalIdsEngine.{SignalIdsEngine}
use Rattle.table.specs.Rows.{pad, every}
use Rattle.table.specs.Table.{Table, Told, accepted, refused, joined, live, detector_of, table_of, engine_of, empty_table, defined, newly, created, entry_of, below, has, appended, appended_all}
use Rattle.table.specs.Calls.{TableCall, Answer, defines, batches, removes, told}
use Rattle.table.proofs.Lists.{every_append, every_insert, every_drop, every_move}
use Rattle.table.proofs.Accepted.{define_accepted, batch_accepted, remove_accepted}
use Rattle.table.proofs.SignalIdsEngine.new.Reads as new
use Rattle.frames.specs.Frames.{applies, multiplexor_of, meets, passed_over, sampled, step_of, step_row, next_of, effective_of, payload_of, processed}
use Rattle.frames.specs.Isolation.{Call, tabled, count_asked, next_asked, framed, raw_framed, Said, after}
use Rattle.frames.proofs.Compiled.{Compiled, compiled_says, Run, ended, step}

-- ---- of an engine value and of a table

abbrev RowFinite : Entry → Type 0
RowFinite row = FiniteMean row.detector

-- every place of the column, used or not, and the settings' detector
pub record FiniteMeans (e : SignalIdsEngine) : Type 0 where
  pub detectors : every FiniteMean e.detectors
  pub fresh : FiniteMean e.fresh

record FiniteTable (t : Table) : Type 0 where
  rows : every RowFinite t.rows
  fresh : FiniteMean t.fresh

-- ---- from the column to the live rows, and back

module _ {A : Type 0} (P : A → Type 0) where
  every_of_take : (n : ℕ) (l : List A) → every P l → every P (take n l)
  every_of_take zero l h = tt
  every_of_take (suc n) [] h = tt
  every_of_take (suc n) (a ∷ l) h = (h.0, every_of_take n l h.1)

  every_behind : (n : ℕ) (l : List A) → every P l → every P (drop n l)
  every_behind zero l h = h
  every_behind (suc n) [] h = tt
  every_behind (suc n) (a ∷ l) h = every_behind n l h.1

  every_copy : (n : ℕ) (a : A) → P a → every P (replicate n a)
  every_copy zero a h = tt
  every_copy (suc n) a h = (h, every_copy n a h)

joined_finite : (is : List ℕ) (ss : List Signal) (ts : List EwmaDetector) → every FiniteMean ts → every RowFinite (joined is ss ts)
joined_finite [] ss ts h = tt
joined_finite (i ∷ is) [] ts h = tt
joined_finite (i ∷ is) (s ∷ ss) [] h = tt
joined_finite (i ∷ is) (s ∷ ss) (t ∷ ts) h = (h.0, joined_finite is ss ts h.1)

live_finite : (e : SignalIdsEngine) → FiniteMeans e → every RowFinite (live e)
live_finite e h = every_of_take RowFinite e.count (joined e.ids e.signals e.detectors) (joined_finite e.ids e.signals e.detectors h.detectors)

column_finite : (l : List Entry) → every RowFinite l → every FiniteMean (map detector_of l)
column_finite [] h = tt
column_finite (r ∷ l) h = (h.0, column_finite l h.1)

engine_finite : (t : Table) → FiniteTable t → FiniteMeans (engine_of t)
unfolding pad
engine_finite t h =
    record {
      detectors =
          every_append FiniteMean (map detector_of t.rows) (replicate (64 - length (map detector_of t.rows)) t.fresh)
          (column_finite t.rows h.rows)
          (every_copy FiniteMean (64 - length (map detector_of t.rows)) t.fresh h.fresh);
      fresh = h.fresh;
    }

-- ---- table calls: a new definition has the settings' detector, and the others stay

appended_finite : (l : List SignalDefinition) (t : Table) → FiniteTable t → FiniteTable (appended_all t l)
appended_finite [] t h = h
appended_finite (d ∷ l) t h =
    appended_finite l (appended t d)
    (record { rows = every_insert RowFinite (below (d.can_id + 1)) (entry_of t.fresh t.next d) t.rows h.fresh h.rows; fresh = h.fresh })

accepted_finite : (t : Table) (c : TableCall) (a : Answer c) (u : Table) → told t c ≡ accepted a u → FiniteTable t → FiniteTable u
accepted_finite t (defines d) a u e h =
    subst FiniteTable (sym (define_accepted t d a u e).table)
    (record { rows = every_insert RowFinite (below d.can_id) (entry_of t.fresh t.next d) t.rows h.fresh h.rows; fresh = h.fresh })
accepted_finite t (batches ds n) a u e h = subst FiniteTable (sym (batch_accepted t ds n a u e).table) (appended_finite (take n ds) t h)
accepted_finite t (removes s) a u e h =
    subst FiniteTable (sym (remove_accepted t s a u e).table) (record { rows = every_drop RowFinite (has s) t.rows h.rows; fresh = h.fresh })

tabled_finite : (e : SignalIdsEngine) (c : TableCall) → FiniteMeans e → FiniteMeans (after e (tabled c))
tabled_finite e c h = go (told (table_of e) c) refl
  where
    go : (x : Told (Answer c)) → told (table_of e) c ≡ x → FiniteMeans (defined e x).engine
    go (refused k) p = h
    go (accepted a u) p = engine_finite u (accepted_finite (table_of e) c a u p (record { rows = live_finite e h; fresh = h.fresh }))

-- ---- frames

sampled_finite : (t : EwmaDetector) (v : Measured) → FiniteMean t → FiniteMean (sampled t v).detector
sampled_finite t (unmeasured k) h = h
sampled_finite t (measured v) h = detector.after_finite t (takes v) h

step_finite : (s : List ℕ) (n : ℕ) (m : Option ℕ) (row : Entry) → RowFinite row → FiniteMean (step_row s n m row).detector
unfolding step_of
step_finite s n m row h = go (meets row.signal.definition.condition m)
  where
    go : (b : Bool)
        → FiniteMean (cond b (sampled row.detector (signal_of s n row.signal.definition)) (record { detector = row.detector; finding = passed_over })).detector
    go true = sampled_finite row.detector (signal_of s n row.signal.definition) h
    go false = h

next_finite : (id : ℕ) (x : Bool) (s : List ℕ) (n : ℕ) (m : Option ℕ) (row : Entry) → RowFinite row → RowFinite (next_of id x s n m row)
next_finite id x s n m row h = go (applies id x row)
  where
    go : (b : Bool) → FiniteMean (cond b (step_row s n m row).detector row.detector)
    go true = step_finite s n m row h
    go false = h

frame_finite : (e : SignalIdsEngine) (id : ℕ) (x : Bool) (s : List ℕ) (n : ℕ) → FiniteMeans e → FiniteMeans (processed e id x s n).engine
frame_finite e id x s n h =
    let m : Option ℕ = multiplexor_of id x s n (live e) in
    let rows : List Entry = map (next_of id x s n m) (live e) in
    record {
      detectors =
          every_append FiniteMean (map detector_of rows) (drop e.count e.detectors)
          (column_finite rows (every_move RowFinite (next_of id x s n m) (next_finite id x s n m) (live e) (live_finite e h)))
          (every_behind FiniteMean e.count e.detectors h.detectors);
      fresh = h.fresh;
    }

-- ---- each compiled call keeps finite means, and so does a run of them

pub after_finite : (e : SignalIdsEngine) (c : Call) → FiniteMeans e → FiniteMeans (after e c)
after_finite e (tabled c) h = tabled_finite e c h
after_finite e count_asked h = h
after_finite e next_asked h = h
after_finite e (framed f) h = frame_finite e (effective_of f) f.is_extended f.«data» (payload_of f) h
after_finite e (raw_framed id s n) h = frame_finite e id false s n h

pub call_keeps_finite : {e u : SignalIdsEngine} {c : Call} {a : Said} → Compiled e c a u → FiniteMeans e → FiniteMeans u
call_keeps_finite {e} {u} {c} made h = subst FiniteMeans (sym (compiled_says made).1) (after_finite e c h)

pub run_keeps_finite : {e z : SignalIdsEngine} {cs : List Call} {heard : List Said} → Run e cs heard z → FiniteMeans e → FiniteMeans z
run_keeps_finite (ended e) h = h
run_keeps_finite (step made run) h = run_keeps_finite run (call_keeps_finite made h)

-- ---- from `new`, also beside a refusal

newly_finite : (m : Configured) → FiniteMean (or_as_it_was idle m) → FiniteMeans (newly m).engine
newly_finite (configured f) h = engine_finite (empty_table f) (record { rows = tt; fresh = h })
newly_finite (unconfigured k) h = engine_finite (empty_table idle) (record { rows = tt; fresh = h })

pub created_finite : (alpha threshold : Float) → FiniteMeans (created alpha threshold).engine
created_finite alpha threshold = newly_finite (made_of alpha threshold 10 5) (settings_finite alpha threshold 10 5)

module _ (κs : Lfts 0) (alpha threshold : Float) (made : Defined Unit) (out : _) (promised : new.Learnt κs (alpha, (threshold, tt)) made out) {cs : List Call} {heard : List Said} {z : SignalIdsEngine} (run : Run made.engine cs heard z) where
  pub run_finite : FiniteMeans z
  run_finite =
      run_keeps_finite run
      (subst (λ (d : Defined Unit). FiniteMeans d.engine) (sym promised) (created_finite alpha threshold))

  -- "the mean of every detector that our calls made and nothing else altered is finite after any calls"
  pub run_live_finite : every (λ row. FiniteMean row.detector) (live z)
  run_live_finite = live_finite z run_finite
