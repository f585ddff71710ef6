-- Document 02, T-01, "Remote frames carry no data": what `process_frame` returns for a remote frame, on every engine value. The frame is a classic one;
-- the remote flag of an FD frame is ignored (T-05, Fd).
-- Of the engine no more is asked than that each of its columns has 64 places, as every value of its type has (`sound_of_lem` of table).
-- Assumes nothing.
use mathlib.Core.Path.{◌≡◌, refl, ap, ◌∙◌, subst, sym}
use mathlib.Core.Bool.{Bool, true, false, cond}
use mathlib.Core.List.{List, [], ◌∷◌, ◌++◌, map, flat_map}
use mathlib.Core.Logic.{◌⊎◌, inl, inr}
use Prim.Native.Nat.{ℕ, zero, suc, ◌-◌, min}
use native.Mathlib.Omega.{arith}
use Rattle.std.proofs.Common.{Option, None}
use lib.ListN.{length, take, replicate}
use lib.Seq.{take-append_seam}
use contract.Lifetimes.{Lfts}
use Rattle.bits.specs.Answers.{Answer}
use Rattle.bits.specs.Answers.Answer.{value, refused}
use Rattle.bits.specs.Signal.{sized}
use Rattle.bits.proofs.Theorems.{told, refused_by_lem}
use Rattle.conversion.specs.declared.SignalDefinition.{SignalDefinition}
use Rattle.conversion.specs.declared.Condition.{Condition}
use Rattle.conversion.specs.declared.Condition.TheVariants.{Always, Only}
use Rattle.conversion.specs.Extract.{unmeasured, raw_signal, signal_of, value_of}
use Rattle.detector.specs.declared.EwmaDetector.{EwmaDetector}
use Rattle.detector.proofs.Told.{chosen, other}
use Rattle.table.specs.declared.Entry.{Entry}
use Rattle.table.specs.declared.SignalIdsEngine.{SignalIdsEngine}
use Rattle.table.specs.Rows.{pad, keep, every}
use Rattle.table.specs.Table.{live, table_of}
use Rattle.table.specs.Regular.{Proper, Regular}
use Rattle.table.proofs.Columns.{Sound}
use Rattle.table.proofs.Lists.{every_append}
use Rattle.frames.specs.declared.CanFrame.{CanFrame}
use Rattle.frames.specs.declared.Processed.{Processed}
use Rattle.conversion.specs.declared.ExtractError.{ExtractError}
use Rattle.conversion.specs.declared.ExtractError.TheVariants.{BadLength, Outside}
use Rattle.frames.specs.Frames.{payload_of, effective_of, applies, selects, numbered, number_of, multiplexor_of, meets, reason_of, Finding, passed_over, no_value, Stepped, sampled, step_of, next_of, Reported, under_slot, report_of, flagged, listed, blank_anomaly, blank_report, result_means, answered, moved, Framed, processed_means, processed, processed_frame}
use Rattle.frames.proofs.Steps.{step_over, step_sampled}
use Rattle.frames.proofs.Theorems.{moved-live}
use Rattle.frames.proofs.Reasons.{accepted_sized, reported}
use Rattle.frames.proofs.process_frame.Reads as process-frame

-- ---- in no bytes no signal has a number, and so none has a value
no_raw : (s : List ℕ) (d : SignalDefinition) → raw_signal s 0 d ≡ refused (cond (sized d.bit_length) 16 1)
unfolding raw_signal
no_raw s d = at (raw_signal s 0 d) refl
  where
    at : (a : Answer) → raw_signal s 0 d ≡ a → a ≡ refused (cond (sized d.bit_length) 16 1)
    at (value x) e =
        let t = told s 0 d.byte_order d.start_bit d.bit_length x e in
        absurd (omega (arith, t.some, t.within))
    at (refused k) e = ap refused (refused_by_lem s 0 d.byte_order d.start_bit d.bit_length k e)

no_value_lem : (s : List ℕ) (d : SignalDefinition) → signal_of s 0 d ≡ unmeasured (cond (sized d.bit_length) 16 1)
unfolding signal_of
no_value_lem s d = ap (value_of d) (no_raw s d)

no_multiplexor : (id : ℕ) (x : Bool) (s : List ℕ) (rows : List Entry) → multiplexor_of id x s 0 rows ≡ None
no_multiplexor id x s [] = refl
no_multiplexor id x s (row ∷ rows) = at (no_multiplexor id x s rows) (selects id x row)
  where
    at : multiplexor_of id x s 0 rows ≡ None → (b : Bool) → cond b (number_of s 0 row.signal.definition) (multiplexor_of id x s 0 rows) ≡ None
    at rest true = ap numbered (no_raw s row.signal.definition)
    at rest false = rest

-- a definition that applies is passed over if it has a condition, whatever that is, and else has no value: its bits are outside, whatever its start, and
-- only one that no call accepts has a bad length
abbrev pub valueless_at : ℕ → Condition → Finding
valueless_at L Always = no_value (cond (sized L) Outside BadLength)
valueless_at L (Only n) = passed_over

abbrev pub valueless : SignalDefinition → Finding
valueless d = valueless_at d.bit_length d.condition

no_step : (s : List ℕ) (d : SignalDefinition) (t : EwmaDetector) → step_of s 0 None d t ≡ record { detector = t; finding = valueless d }
unfolding meets
no_step s d t = at d.condition refl
  where
    by : (b : Bool) → reason_of (cond b 16 1) ≡ cond b Outside BadLength
    by true = refl
    by false = refl

    at : (c : Condition) → d.condition ≡ c → step_of s 0 None d t ≡ record { detector = t; finding = valueless_at d.bit_length c }
    at Always e =
        step_sampled s 0 None d t (ap (λ (c : Condition). meets c None) e)
        ∙ ap (sampled t) (no_value_lem s d)
        ∙ ap (λ (r : ExtractError). (record { detector = t; finding = no_value r })) (by (sized d.bit_length))
    at (Only n) e = step_over s 0 None d t (ap (λ (c : Condition). meets c None) e)

-- ---- no row moves, and the reports are these
abbrev pub quiet : Entry → Reported
quiet row = under_slot row.signal.slot (valueless row.signal.definition)

module _ (id : ℕ) (x : Bool) (s : List ℕ) where
  row_stays : (row : Entry) → next_of id x s 0 None row ≡ row
  row_stays row =
      ap (λ (t : Stepped). (record { id = row.id; signal = row.signal; detector = cond (applies id x row) t.detector row.detector })) (no_step s row.signal.definition row.detector)
      ∙ at (applies id x row)
    where
      at : (b : Bool) → ◌≡◌ {A = Entry} (record { id = row.id; signal = row.signal; detector = cond b row.detector row.detector }) row
      at true = refl
      at false = refl

  rows_stay : (rows : List Entry) → map (next_of id x s 0 None) rows ≡ rows
  rows_stay [] = refl
  rows_stay (row ∷ rows) =
      ap (λ (r : Entry). r ∷ map (next_of id x s 0 None) rows) (row_stays row) ∙ ap (λ (l : List Entry). row ∷ l) (rows_stay rows)

  all_quiet : (rows : List Entry) → map (report_of s 0 None) rows ≡ map quiet rows
  all_quiet [] = refl
  all_quiet (row ∷ rows) =
      ap (λ (t : Stepped). under_slot row.signal.slot t.finding ∷ map (report_of s 0 None) rows) (no_step s row.signal.definition row.detector)
      ∙ ap (λ (l : List Reported). quiet row ∷ l) (all_quiet rows)

  no_data : (e : SignalIdsEngine) → Sound e → processed e id x s 0 ≡ record { engine = e; result = answered (map quiet (keep (applies id x) (live e))) }
  no_data e good =
      let own = keep (applies id x) (live e) in
      ap (λ (m : Option ℕ). (record { engine = moved e (map (next_of id x s 0 m) (live e)); result = answered (map (report_of s 0 m) own) })) (no_multiplexor id x s (live e))
      ∙ ap (λ (l : List Entry). (record { engine = moved e l; result = answered (map (report_of s 0 None) own) })) (rows_stay (live e))
      ∙ ap (λ (l : List Reported). (record { engine = moved e (live e); result = answered l })) (all_quiet own)
      ∙ ap (λ (q : SignalIdsEngine). (record { engine = q; result = answered (map quiet own) })) (moved-live e good)

-- none of them is flagged
none_flagged : (rows : List Entry) → flat_map flagged (map quiet rows) ≡ []
unfolding flat_map
none_flagged [] = refl
none_flagged (row ∷ rows) = at (none_flagged rows) row.signal.definition.condition
  where
    at : flat_map flagged (map quiet rows) ≡ []
        → (c : Condition)
        → flagged (under_slot row.signal.slot (valueless_at row.signal.definition.bit_length c)) ++ flat_map flagged (map quiet rows) ≡ []
    at rest Always = rest
    at rest (Only n) = rest

pub none_listed : (rows : List Entry) → listed (map quiet rows) ≡ []
none_listed rows = ap (take 8) (none_flagged rows)

-- ---- T-01's sentences
-- passed over, or no value, for whatever reason
abbrev pub Valueless : Reported → Type 0
Valueless r = (r.finding ≡ passed_over) ⊎ ((why : ExtractError) × (r.finding ≡ no_value why))

each_valueless : (rows : List Entry) → every Valueless (map quiet rows)
each_valueless [] = tt
each_valueless (row ∷ rows) = (at row.signal.definition.condition, each_valueless rows)
  where
    at : (c : Condition) → Valueless (under_slot row.signal.slot (valueless_at row.signal.definition.bit_length c))
    at Always = inr (_, refl)
    at (Only n) = inl refl

blanks_valueless : (n : ℕ) → every Valueless (replicate n blank_report)
unfolding blank_report
blanks_valueless zero = tt
blanks_valueless (suc n) = (inl refl, blanks_valueless n)

module _ (f : CanFrame) (classic : f.is_fd ≡ false) (remote : f.is_remote ≡ true) where
  -- the payload length of a remote frame is 0, whatever its length field says
  pub remote_payload : payload_of f ≡ 0
  remote_payload = other _ _ classic ∙ chosen 0 (min f.length 8) remote

  -- its multiplexor has no number, whatever stands in the bytes of the record
  pub remote_multiplexor : (rows : List Entry) → multiplexor_of (effective_of f) f.is_extended f.«data» (payload_of f) rows ≡ None
  remote_multiplexor rows =
      ap (λ (n : ℕ). multiplexor_of (effective_of f) f.is_extended f.«data» n rows) remote_payload
      ∙ no_multiplexor (effective_of f) f.is_extended f.«data» rows

  module _ (e : SignalIdsEngine) (good : Sound e) where
    -- the rows that apply
    abbrev own : List Entry
    own = keep (applies (effective_of f) f.is_extended) (live e)

    -- all that a remote frame does: neither its length nor its data shows
    pub remote_frame : processed_frame e f ≡ record { engine = e; result = answered (map quiet own) }
    remote_frame =
        ap (processed e (effective_of f) f.is_extended f.«data») remote_payload
        ∙ no_data (effective_of f) f.is_extended f.«data» e good

    -- of what the compiled call returns
    module _ (κs : Lfts 0) (r : Processed) (out : _) (promised : process-frame.Learnt κs (e, (f, tt)) r out) where
      returned : processed_means r ≡ record { engine = e; result = answered (map quiet own) }
      returned = promised ∙ remote_frame

      -- the engine is the one that came in
      pub remote_engine : r.engine ≡ e
      remote_engine = ap (λ (p : Framed). p.engine) returned

      -- every outcome is passed over or no value
      pub remote_outcomes : every Valueless (result_means r.result).reports
      unfolding pad
      remote_outcomes =
          subst (every Valueless) (sym (ap (λ (p : Framed). p.result.reports) returned)) padded
        where
          padded : every Valueless (pad 64 blank_report (map quiet own))
          padded = every_append Valueless (map quiet own) (replicate (64 - length (map quiet own)) blank_report) (each_valueless own) (blanks_valueless (64 - length (map quiet own)))

      -- nothing is listed
      pub remote_listed : (r.result.anomaly_count ≡ 0) × (r.result.anomalies ≡ pad 8 blank_anomaly [])
      remote_listed = (
        ap (λ (p : Framed). p.result.anomaly_count) returned ∙ ap length (none_listed own),
        ap (λ (p : Framed). p.result.anomalies) returned ∙ ap (pad 8 blank_anomaly) (none_listed own),
      )

-- ---- in a table that calls make, every outcome without a value is outside (T-02): the length of a definition is never bad there
abbrev pub PassedOrOutside : Reported → Type 0
PassedOrOutside r = (r.finding ≡ passed_over) ⊎ (r.finding ≡ no_value Outside)

each_outside : (id : ℕ) (x : Bool) (next : ℕ) (rows : List Entry) → every (Proper next) rows → every PassedOrOutside (map quiet (keep (applies id x) rows))
each_outside id x next [] p = tt
each_outside id x next (row ∷ rows) p = go (each_outside id x next rows p.1) (applies id x row)
  where
    at : (c : Condition) → PassedOrOutside (under_slot row.signal.slot (valueless_at row.signal.definition.bit_length c))
    at Always = inr (ap (λ (b : Bool). no_value (cond b Outside BadLength)) (accepted_sized row.signal.definition p.0.passes))
    at (Only n) = inl refl

    go : every PassedOrOutside (map quiet (keep (applies id x) rows))
        → (b : Bool)
        → every PassedOrOutside (map quiet (cond b (row ∷ keep (applies id x) rows) (keep (applies id x) rows)))
    go rest true = (at row.signal.definition.condition, rest)
    go rest false = rest

pub remote_outside : (κs : Lfts 0) (e : SignalIdsEngine) → Sound e → Regular (table_of e) → (f : CanFrame) → f.is_fd ≡ false → f.is_remote ≡ true → (r : Processed) (out : _)
    → process-frame.Learnt κs (e, (f, tt)) r out
    → every PassedOrOutside (reported r)
unfolding pad
remote_outside κs e good g f classic remote r out promised =
    let own = keep (applies (effective_of f) f.is_extended) (live e) in
    subst (every PassedOrOutside)
    (sym (ap (λ (p : Framed). take p.result.report_count p.result.reports) (returned f classic remote e good κs r out promised) ∙ take-append_seam (map quiet own) _))
    (each_outside (effective_of f) f.is_extended e.next_slot (live e) g.proper)

-- a classic frame that is not remote has the payload that document 01 gives it
pub other_payload : (f : CanFrame) → f.is_fd ≡ false → f.is_remote ≡ false → payload_of f ≡ min f.length 8
other_payload f classic h = other _ _ classic ∙ other 0 (min f.length 8) h
