-- Document 02, T-02, "Say why there was no value": the reason of an outcome, and the three counts in a frame's answer.
-- Assumes nothing.
use mathlib.Core.Path.{◌≡◌, refl, sym, ap, ◌∙◌}
use mathlib.Core.Bool.{Bool, true, false, not, ◌&&◌, cond}
use mathlib.Core.Logic.{◌⊎◌, inl, inr}
use mathlib.Core.List.{List, [], ◌∷◌, map}
use Prim.Native.Nat.{ℕ, suc, ◌+◌, ◌≤◌}
use native.Mathlib.Omega.{arith}
use Rattle.std.proofs.Common.{Option, Ok}
use lib.Dec.{leb, eqb}
use borrow.Author.Tests.{le-leb}
use lib.Ieee.{Float}
use lib.ListN.{length, take, length-map}
use lib.Seq.{take-append_seam}
use contract.Lifetimes.{Lfts}
use denote.Ref.{Bor}
use Rattle.bits.specs.Signal.{sized}
use Rattle.conversion.specs.declared.SignalDefinition.{SignalDefinition}
use Rattle.conversion.specs.Extract.{Measured, measured, unmeasured, signal_of}
use Rattle.conversion.proofs.Extracting.{value_finite, refused_by_number}
use Rattle.detector.specs.declared.EwmaDetector.{EwmaDetector}
use Rattle.detector.specs.Answers.{Heard, ignored, warming}
use Rattle.detector.specs.Ewma.{Sampled, updated}
use Rattle.detector.proofs.Samples.{Which, was_ignored, was_first, was_warming, was_past, which, first_sample_lem, warming_folded, past_scored}
use Rattle.table.specs.declared.Defined.{Defined}
use Rattle.table.specs.declared.Entry.{Entry}
use Rattle.table.specs.declared.SignalIdsEngine.{SignalIdsEngine}
use Rattle.table.specs.Rows.{pad, keep, every}
use Rattle.table.specs.Table.{live, table_of, fault}
use Rattle.table.specs.Regular.{Proper, Regular}
use Rattle.table.proofs.Laws.{length_keep}
use Rattle.table.proofs.Theorems.{passing}
use Rattle.table.proofs.SignalIdsEngine.new.Reads as new
use Rattle.frames.specs.declared.CanFrame.{CanFrame}
use Rattle.frames.specs.declared.Counts.{Counts}
use Rattle.frames.specs.declared.Processed.{Processed}
use Rattle.conversion.specs.declared.ExtractError.{ExtractError}
use Rattle.conversion.specs.declared.ExtractError.TheVariants.{BadLength, Outside, NotFinite}
use Rattle.frames.specs.Frames.{payload_of, effective_of, applies, multiplexor_of, meets, reason_number, reason_of, Finding, passed_over, no_value, first_sample, warming_up, scored, outcome_of, Stepped, sampled, step_of, report_of, Reported, report_means, reports, how_many, is_passed_over, no_value_by, counts_of, Framed, processed_means, processed}
use Rattle.frames.specs.Isolation.{Call, Said}
use Rattle.frames.proofs.Lists.{tally_cons}
use Rattle.frames.proofs.Steps.{step_over, step_sampled}
use Rattle.frames.proofs.Compiled.{Run}
use Rattle.frames.proofs.Runs.{run_regular}
use Rattle.frames.proofs.process_frame.Reads as process-frame
use Rattle.frames.proofs.process_raw_frame.Reads as process-raw-frame

-- ---- the numbers tell the reasons apart
pub reason_known : (why : ExtractError) → reason_of (reason_number why) ≡ why
reason_known BadLength = refl
reason_known Outside = refl
reason_known NotFinite = refl

pub reason_settled : (a b : ExtractError) → reason_number a ≡ reason_number b → a ≡ b
reason_settled a b h = sym (reason_known a) ∙ ap reason_of h ∙ reason_known b

-- ---- one definition that applies
-- a value that the detector hears has an outcome with that value
not_ignored : (v : Float) (w : Heard) → (w ≡ ignored → ⊥) → (is_passed_over (outcome_of v w) ≡ false) × ((k : ℕ) → no_value_by k (outcome_of v w) ≡ false)
not_ignored v ignored h = absurd (h refl)
not_ignored v Heard.first_sample h = (refl, λ k. refl)
not_ignored v (warming z flag) h = (refl, λ k. refl)
not_ignored v (Heard.scored z flag) h = (refl, λ k. refl)

-- whether extraction refuses by k
abbrev pub refused_by : ℕ → Measured → Bool
refused_by k (measured v) = false
refused_by k (unmeasured j) = eqb j k

module _ (s : List ℕ) (n : ℕ) (d : SignalDefinition) where
  -- a reason has the number of the refusal that it comes from
  pub reason_number_lem : (k : ℕ) → signal_of s n d ≡ unmeasured k → reason_number (reason_of k) ≡ k
  reason_number_lem k e = go (refused_by_number s n d k e)
    where
      at : (b : Bool) → reason_number (reason_of (cond b 16 1)) ≡ cond b 16 1
      at true = refl
      at false = refl

      go : (k ≡ cond (sized d.bit_length) 16 1) ⊎ (k ≡ 17) → reason_number (reason_of k) ≡ k
      go (inl h) = ap (λ (j : ℕ). reason_number (reason_of j)) h ∙ at (sized d.bit_length) ∙ sym h
      go (inr h) = ap (λ (j : ℕ). reason_number (reason_of j)) h ∙ sym h

  -- the detector ignores no value that extraction answers
  pub value_heard : (t : EwmaDetector) (v : Float) → signal_of s n d ≡ measured v → (updated t v).said ≡ ignored → ⊥
  value_heard t v e o = go (which t v)
    where
      heard : {u : Sampled} → updated t v ≡ u → u.said ≡ ignored
      heard h = ap (λ (u : Sampled). u.said) (sym h) ∙ o

      go : Which t v → ⊥
      go (was_ignored f) = let z : ◌≡◌ {A = ℕ} 1 0 = ap (λ (b : Bool). cond b 1 0) (sym (value_finite s n d v e) ∙ f) in absurd (omega arith)
      go (was_first f c) = let h = heard (first_sample_lem t v f c) in let z : ◌≡◌ {A = ℕ} 0 1 = cc in absurd (omega arith)
      go (was_warming f c w) = let h = heard (warming_folded t v f c w) in let z : ◌≡◌ {A = ℕ} 0 1 = cc in absurd (omega arith)
      go (was_past f p) = let h = heard (past_scored t v p f) in let z : ◌≡◌ {A = ℕ} 0 1 = cc in absurd (omega arith)

  module _ (m : Option ℕ) (t : EwmaDetector) where
    heard_or_refused : (a : Measured) → signal_of s n d ≡ a
        → (is_passed_over (sampled t a).finding ≡ false) × ((k : ℕ) → no_value_by k (sampled t a).finding ≡ refused_by k a)
    heard_or_refused (measured v) e = not_ignored v (updated t v).said (value_heard t v e)
    heard_or_refused (unmeasured j) e = (refl, λ k. ap (λ (i : ℕ). eqb i k) (reason_number_lem j e))

    -- the outcome is condition not met exactly if the condition is not met
    pub passed_over_exactly : is_passed_over (step_of s n m d t).finding ≡ not (meets d.condition m)
    passed_over_exactly = go (meets d.condition m) refl
      where
        go : (b : Bool) → meets d.condition m ≡ b → is_passed_over (step_of s n m d t).finding ≡ not b
        go true e = ap (λ (q : Stepped). is_passed_over q.finding) (step_sampled s n m d t e) ∙ (heard_or_refused (signal_of s n d) refl).0
        go false e = ap (λ (q : Stepped). is_passed_over q.finding) (step_over s n m d t e)

    -- it is no value with the number k exactly if the condition is met and extraction refuses by k
    pub no_value_exactly : (k : ℕ) → no_value_by k (step_of s n m d t).finding ≡ (meets d.condition m && refused_by k (signal_of s n d))
    no_value_exactly k = go (meets d.condition m) refl
      where
        go : (b : Bool) → meets d.condition m ≡ b → no_value_by k (step_of s n m d t).finding ≡ (b && refused_by k (signal_of s n d))
        go true e = ap (λ (q : Stepped). no_value_by k q.finding) (step_sampled s n m d t e) ∙ (heard_or_refused (signal_of s n d) refl).1 k
        go false e = ap (λ (q : Stepped). no_value_by k q.finding) (step_over s n m d t e)

    -- and then the detector stays
    pub refused_stays : (k : ℕ) → meets d.condition m ≡ true → signal_of s n d ≡ unmeasured k → step_of s n m d t ≡ record { detector = t; finding = no_value (reason_of k) }
    refused_stays k met e = step_sampled s n m d t met ∙ ap (sampled t) e

-- ---- a list of outcomes: each is of exactly one kind
abbrev pub is_first : Finding → Bool
is_first passed_over = false
is_first (no_value r) = false
is_first (first_sample v) = true
is_first (warming_up v) = false
is_first (scored v z flag) = false

abbrev pub is_warming : Finding → Bool
is_warming passed_over = false
is_warming (no_value r) = false
is_warming (first_sample v) = false
is_warming (warming_up v) = true
is_warming (scored v z flag) = false

abbrev pub is_scored : Finding → Bool
is_scored passed_over = false
is_scored (no_value r) = false
is_scored (first_sample v) = false
is_scored (warming_up v) = false
is_scored (scored v z flag) = true

-- first, warming and scored together
abbrev pub with_value : List Reported → ℕ
with_value l = how_many is_first l + how_many is_warming l + how_many is_scored l

one_kind : (f : Finding) → cond (is_passed_over f) 1 0 + cond (no_value_by 1 f) 1 0 + cond (no_value_by 16 f) 1 0 + cond (no_value_by 17 f) 1 0
    + (cond (is_first f) 1 0 + cond (is_warming f) 1 0 + cond (is_scored f) 1 0) ≡ 1
one_kind passed_over = refl
one_kind (no_value BadLength) = refl
one_kind (no_value Outside) = refl
one_kind (no_value NotFinite) = refl
one_kind (first_sample v) = refl
one_kind (warming_up v) = refl
one_kind (scored v z flag) = refl

how_many_cons : (p : Finding → Bool) (r : Reported) (l : List Reported) → how_many p (r ∷ l) ≡ cond (p r.finding) 1 0 + how_many p l
how_many_cons p r l = tally_cons (λ (q : Reported). p q.finding) r l ∙ at (p r.finding)
  where
    at : (b : Bool) → cond b (suc (how_many p l)) (how_many p l) ≡ cond b 1 0 + how_many p l
    at true = omega arith
    at false = omega arith

pub all_kinds : (l : List Reported) → how_many is_passed_over l + how_many (no_value_by 1) l + how_many (no_value_by 16) l + how_many (no_value_by 17) l + with_value l ≡ length l
all_kinds [] = refl
all_kinds (r ∷ l) =
    omega (arith, all_kinds l, one_kind r.finding, how_many_cons is_passed_over r l, how_many_cons (no_value_by 1) r l, how_many_cons (no_value_by 16) r l, how_many_cons (no_value_by 17) r l, how_many_cons is_first r l, how_many_cons is_warming r l, how_many_cons is_scored r l)

-- ---- the rows that apply, by the condition and by extraction
abbrev pub is_unmet : Option ℕ → Entry → Bool
is_unmet m row = not (meets row.signal.definition.condition m)

abbrev pub is_refused_by : List ℕ → ℕ → Option ℕ → ℕ → Entry → Bool
is_refused_by s n m k row = meets row.signal.definition.condition m && refused_by k (signal_of s n row.signal.definition)

abbrev pub counts_of_rows : List ℕ → ℕ → Option ℕ → List Entry → Counts
counts_of_rows s n m l =
    record {
      condition_not_met = length (keep (is_unmet m) l);
      outside = length (keep (is_refused_by s n m 16) l);
      not_finite = length (keep (is_refused_by s n m 17) l);
    }

how_many_rows : (p : Finding → Bool) (q : Entry → Bool) (f : Entry → Reported) → ((row : Entry) → p (f row).finding ≡ q row) → (l : List Entry)
    → how_many p (map f l) ≡ length (keep q l)
how_many_rows p q f same [] = refl
how_many_rows p q f same (row ∷ l) =
    tally_cons (λ (r : Reported). p r.finding) (f row) (map f l)
    ∙ ap (λ (b : Bool). cond b (suc (how_many p (map f l))) (how_many p (map f l))) (same row)
    ∙ ap (λ (k : ℕ). cond (q row) (suc k) k) (how_many_rows p q f same l)
    ∙ sym (tally_cons q row l)

module _ (s : List ℕ) (n : ℕ) (m : Option ℕ) (l : List Entry) where
  rows_by : (k : ℕ) → how_many (no_value_by k) (map (report_of s n m) l) ≡ length (keep (is_refused_by s n m k) l)
  rows_by k = how_many_rows (no_value_by k) (is_refused_by s n m k) (report_of s n m) (λ row. no_value_exactly s n row.signal.definition m row.detector k) l

  by_rows : counts_of (map (report_of s n m) l) ≡ counts_of_rows s n m l
  by_rows =
      ap (λ (k : ℕ). (record { condition_not_met = k; outside = how_many (no_value_by 16) (map (report_of s n m) l); not_finite = how_many (no_value_by 17) (map (report_of s n m) l) }))
      (how_many_rows is_passed_over (is_unmet m) (report_of s n m) (λ row. passed_over_exactly s n row.signal.definition m row.detector) l)
      ∙ ap (λ (k : ℕ). (record { condition_not_met = length (keep (is_unmet m) l); outside = k; not_finite = how_many (no_value_by 17) (map (report_of s n m) l) })) (rows_by 16)
      ∙ ap (λ (k : ℕ). (record { condition_not_met = length (keep (is_unmet m) l); outside = length (keep (is_refused_by s n m 16) l); not_finite = k })) (rows_by 17)

-- ---- bad length cannot arise in a table that calls make
pub accepted_sized : (d : SignalDefinition) → fault d ≡ Ok tt → sized d.bit_length ≡ true
accepted_sized d h =
    let p = passing d h in
    ap (λ (b : Bool). b && leb d.bit_length 64) (le-leb 1 d.bit_length p.long) ∙ le-leb d.bit_length 64 p.short

never_by_length : (s : List ℕ) (n : ℕ) (d : SignalDefinition) → fault d ≡ Ok tt → refused_by 1 (signal_of s n d) ≡ false
never_by_length s n d h = at (signal_of s n d) refl
  where
    by : (k : ℕ) → (k ≡ cond (sized d.bit_length) 16 1) ⊎ (k ≡ 17) → eqb k 1 ≡ false
    by k (inl q) = ap (λ (j : ℕ). eqb j 1) (q ∙ ap (λ (b : Bool). cond b 16 1) (accepted_sized d h))
    by k (inr q) = ap (λ (j : ℕ). eqb j 1) q

    at : (a : Measured) → signal_of s n d ≡ a → refused_by 1 a ≡ false
    at (measured v) e = refl
    at (unmeasured k) e = by k (refused_by_number s n d k e)

none_by_length : (id : ℕ) (x : Bool) (s : List ℕ) (n : ℕ) (m : Option ℕ) (next : ℕ) (l : List Entry) → every (Proper next) l
    → how_many (no_value_by 1) (map (report_of s n m) (keep (applies id x) l)) ≡ 0
none_by_length id x s n m next [] p = refl
none_by_length id x s n m next (row ∷ l) p = go (none_by_length id x s n m next l p.1) (applies id x row)
  where
    never : no_value_by 1 (report_of s n m row).finding ≡ false
    never =
        no_value_exactly s n row.signal.definition m row.detector 1
        ∙ ap (λ (b : Bool). meets row.signal.definition.condition m && b) (never_by_length s n row.signal.definition p.0.passes)
        ∙ at (meets row.signal.definition.condition m)
      where
        at : (b : Bool) → (b && false) ≡ false
        at true = refl
        at false = refl

    go : how_many (no_value_by 1) (map (report_of s n m) (keep (applies id x) l)) ≡ 0
        → (b : Bool)
        → how_many (no_value_by 1) (map (report_of s n m) (cond b (row ∷ keep (applies id x) l) (keep (applies id x) l))) ≡ 0
    go rest true =
        let none : ◌≡◌ {A = ℕ} (cond (no_value_by 1 (report_of s n m row).finding) 1 0) 0 = ap {B = ℕ} (λ (b : Bool). cond b 1 0) never in
        omega (arith, how_many_cons (no_value_by 1) (report_of s n m row) (map (report_of s n m) (keep (applies id x) l)), none, rest)
    go rest false = rest

-- ---- of what a compiled call returns
-- the reports that it returns, without the unused places
abbrev pub reported : Processed → List Reported
reported r = take r.result.report_count (map report_means r.result.reports)

-- what holds in a table that calls make: no outcome is bad length, so the three counts and the outcomes with a value are all
pub record Kinds (r : Processed) : Type 0 where
  pub no_bad_length : how_many (no_value_by 1) (reported r) ≡ 0
  pub all : r.result.counts.condition_not_met + r.result.counts.outside + r.result.counts.not_finite + with_value (reported r) ≡ r.result.report_count
  pub at_most : r.result.report_count ≤ 64

-- what holds of the answer r to a frame of the key with the bytes s, of which n count
pub record Counted (e : SignalIdsEngine) (id : ℕ) (x : Bool) (s : List ℕ) (n : ℕ) (r : Processed) : Type 0 where
  -- each count is the number of such outcomes among the reports
  pub of_reports : r.result.counts ≡ counts_of (reported r)
  -- and of the rows that apply: whose condition is not met; whose condition is met, and which extraction refuses by 16; or by 17
  pub of_rows : r.result.counts ≡ counts_of_rows s n (multiplexor_of id x s n (live e)) (keep (applies id x) (live e))
  pub kinds : Regular (table_of e) → Kinds r

module _ (e : SignalIdsEngine) (id : ℕ) (x : Bool) (s : List ℕ) (n : ℕ) (r : Processed) (promised : processed_means r ≡ processed e id x s n) where
  long : r.result.report_count ≡ length (reports id x s n (live e))
  long = ap (λ (p : Framed). p.result.report_count) promised

  reported_are : reported r ≡ reports id x s n (live e)
  unfolding pad
  reported_are = ap (λ (p : Framed). take p.result.report_count p.result.reports) promised ∙ take-append_seam (reports id x s n (live e)) _

  counts_are : r.result.counts ≡ counts_of (reports id x s n (live e))
  counts_are = ap (λ (p : Framed). p.result.counts) promised

  few : Regular (table_of e) → length (reports id x s n (live e)) ≤ 64
  few g = omega (arith, length-map (keep (applies id x) (live e)) (report_of s n (multiplexor_of id x s n (live e))), length_keep (applies id x) (live e), g.few)

  counted : Counted e id x s n r
  counted =
      record {
        of_reports = counts_are ∙ ap counts_of (sym reported_are);
        of_rows = counts_are ∙ by_rows s n (multiplexor_of id x s n (live e)) (keep (applies id x) (live e));
        kinds = λ g.
            let none = none_by_length id x s n (multiplexor_of id x s n (live e)) e.next_slot (live e) g.proper in
            record {
              no_bad_length = ap (how_many (no_value_by 1)) reported_are ∙ none;
              all = omega (arith, all_kinds (reports id x s n (live e)), long, none, ap with_value reported_are, ap (λ (c : Counts). c.condition_not_met) counts_are, ap (λ (c : Counts). c.outside) counts_are, ap (λ (c : Counts). c.not_finite) counts_are);
              at_most = omega (arith, long, few g);
            };
      }

pub frame_counted : (κs : Lfts 0) (e : SignalIdsEngine) (f : CanFrame) (r : Processed) (out : _) → process-frame.Learnt κs (e, (f, tt)) r out
    → Counted e (effective_of f) f.is_extended f.«data» (payload_of f) r
frame_counted κs e f r out promised = counted e (effective_of f) f.is_extended f.«data» (payload_of f) r promised

pub raw_frame_counted : (κs : Lfts 1) (e : SignalIdsEngine) (id : ℕ) (bytes : Bor (List ℕ)) (n : ℕ) (r : Processed) (out : _)
    → process-raw-frame.Learnt κs (e, (id, (bytes, (n, tt)))) r out
    → Counted e id false bytes.now n r
raw_frame_counted κs e id bytes n r out promised = counted e id false bytes.now n r promised

-- ---- after any run of compiled calls from `new`
module _ (κs : Lfts 0) (alpha threshold : Float) (made : Defined Unit) (out : _) (promised : new.Learnt κs (alpha, (threshold, tt)) made out)
    {cs : List Call} {heard : List Said} {z : SignalIdsEngine} (run : Run made.engine cs heard z) where
  regular : Regular (table_of z)
  regular = run_regular κs alpha threshold made out promised run

  pub run_frame_kinds : (λs : Lfts 0) (f : CanFrame) (r : Processed) (o : _) → process-frame.Learnt λs (z, (f, tt)) r o → Kinds r
  run_frame_kinds λs f r o h = (frame_counted λs z f r o h).kinds regular

  pub run_raw_frame_kinds : (λs : Lfts 1) (id : ℕ) (bytes : Bor (List ℕ)) (n : ℕ) (r : Processed) (o : _)
      → process-raw-frame.Learnt λs (z, (id, (bytes, (n, tt)))) r o
      → Kinds r
  run_raw_frame_kinds λs id bytes n r o h = (raw_frame_counted λs z id bytes n r o h).kinds regular
