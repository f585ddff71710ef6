-- The answer as a loop fills it: one report more, counted where it has no value, and its anomaly where there is one and room for it.
-- Assumes nothing.
use mathlib.Core.Path.{◌≡◌, refl, sym, ap, ◌∙◌}
use mathlib.Core.Bool.{Bool, true, false, cond}
use mathlib.Core.List.{List, [], ◌∷◌, ◌++◌, map, flat_map, append-nil}
use Prim.Native.Nat.{ℕ, ◌+◌, ◌≤◌, ◌<◌}
use native.Mathlib.Omega.{arith}
use lib.ListN.{length, take, set, length-append}
use Rattle.table.specs.Rows.{pad, keep}
use Rattle.table.proofs.Laws.{pushed, take_room, take_full, flat_append, flat_one, length_keep, keep_append}
use Rattle.frames.specs.declared.Report.{Report}
use Rattle.frames.specs.declared.SignalAnomaly.{SignalAnomaly}
use Rattle.frames.specs.declared.Counts.{Counts}
use Rattle.frames.specs.declared.SignalIdsResult.{SignalIdsResult}
use Rattle.frames.specs.Frames.{Finding, Reported, report_means, flagged, listed, how_many, is_passed_over, no_value_by, counts_of, blank_anomaly, blank_report, Answered, result_means, answered}
use Rattle.frames.specs.Parts.{one_more}
use Rattle.frames.proofs.Lists.{map-set}

abbrev pub result_of : List SignalAnomaly → ℕ → List Report → ℕ → Counts → SignalIdsResult
result_of anomalies c reports k n = record { anomalies = anomalies; anomaly_count = c; reports = reports; report_count = k; counts = n }

abbrev answer_of : List SignalAnomaly → ℕ → List Reported → ℕ → Counts → Answered
answer_of anomalies c reports k n = record { anomalies = anomalies; anomaly_count = c; reports = reports; report_count = k; counts = n }

five : {a b : List SignalAnomaly} {c d : ℕ} {r s : List Reported} {j k : ℕ} {m n : Counts}
    → a ≡ b
    → c ≡ d
    → r ≡ s
    → j ≡ k
    → m ≡ n
    → answer_of a c r j m ≡ answer_of b d s k n
five p q t u v = cc

-- ---- a report has at most one anomaly
flagged_more : (l : List Reported) (r : Reported) → flat_map flagged (l ++ (r ∷ [])) ≡ flat_map flagged l ++ flagged r
flagged_more l r = flat_append flagged l (r ∷ []) ∙ ap (λ (z : List SignalAnomaly). flat_map flagged l ++ z) (flat_one flagged r)

-- it is listed where there is room
listed_one : (l : List Reported) (r : Reported) (a : SignalAnomaly) → length (listed l) < 8 → (a ∷ []) ≡ flagged r → listed (l ++ (r ∷ [])) ≡ listed l ++ (a ∷ [])
listed_one l r a some h =
    ap (take 8) (flagged_more l r ∙ ap (λ (z : List SignalAnomaly). flat_map flagged l ++ z) (sym h)) ∙ take_room 8 (flat_map flagged l) a some

-- none is listed: the report has none, or there is no room
pub listed_none : (l : List Reported) (r : Reported) → [] ≡ flagged r → listed (l ++ (r ∷ [])) ≡ listed l
listed_none l r h = ap (take 8) (flagged_more l r ∙ ap (λ (z : List SignalAnomaly). flat_map flagged l ++ z) (sym h) ∙ append-nil (flat_map flagged l))

pub listed_full : (l : List Reported) (r : Reported) → 8 ≤ length (listed l) → listed (l ++ (r ∷ [])) ≡ listed l
listed_full l r full = ap (take 8) (flagged_more l r) ∙ take_full 8 (flat_map flagged l) (flagged r) full

-- ---- one report more is counted
how_many_more : (p : Finding → Bool) (l : List Reported) (r : Reported) → cond (p r.finding) (how_many p l + 1) (how_many p l) ≡ how_many p (l ++ (r ∷ []))
how_many_more p l r =
    at (p r.finding)
    ∙ sym (ap length (keep_append (λ (q : Reported). p q.finding) l (r ∷ [])) ∙ length-append (keep (λ (q : Reported). p q.finding) l) (keep (λ (q : Reported). p q.finding) (r ∷ [])))
  where
    at : (b : Bool) → cond b (how_many p l + 1) (how_many p l) ≡ how_many p l + length (cond b (r ∷ []) [])
    at true = refl
    at false = omega arith

pub counts_more : (l : List Reported) (r : Reported) → one_more (counts_of l) r.finding ≡ counts_of (l ++ (r ∷ []))
counts_more l r =
    let a = how_many_more is_passed_over l r in
    let b = how_many_more (no_value_by 16) l r in
    let c = how_many_more (no_value_by 17) l r in
    three a b c
  where
    three : {a b c d e f : ℕ} → a ≡ b → c ≡ d → e ≡ f
        → ◌≡◌ {A = Counts} (record { condition_not_met = a; outside = c; not_finite = e }) (record { condition_not_met = b; outside = d; not_finite = f })
    three p q t = cc

-- ---- one report more
module _ (o : SignalIdsResult) (l : List Reported) (r : Report) (few : length l < 64) (is : result_means o ≡ answered l) where
  abbrev told : Reported
  told = report_means r

  pub count_is : o.anomaly_count ≡ length (listed l)
  count_is = ap (λ (q : Answered). q.anomaly_count) is

  -- there is room in each count
  pub room_in_counts : (o.counts.condition_not_met < 64) × (o.counts.outside < 64) × (o.counts.not_finite < 64)
  room_in_counts = (
    omega (arith, ap (λ (q : Answered). q.counts.condition_not_met) is, few_of is_passed_over),
    omega (arith, ap (λ (q : Answered). q.counts.outside) is, few_of (no_value_by 16)),
    omega (arith, ap (λ (q : Answered). q.counts.not_finite) is, few_of (no_value_by 17)),
  )
    where
      few_of : (p : Finding → Bool) → how_many p l ≤ length l
      few_of p = length_keep (λ (q : Reported). p q.finding) l

  stored : (o.report_count + 1 ≡ length (l ++ (told ∷ []))) × (set (map report_means o.reports) o.report_count told ≡ pad 64 blank_report (l ++ (told ∷ [])))
  stored =
      pushed 64 blank_report l told
      (ap (λ (q : Answered). q.reports) is)
      (ap (λ (q : Answered). q.report_count) is)
      (omega (arith, ap (λ (q : Answered). q.report_count) is))
      refl

  -- the counts that `counted` answers
  module _ {n : Counts} (counted : n ≡ one_more o.counts told.finding) where
    counts_are : n ≡ counts_of (l ++ (told ∷ []))
    counts_are = counted ∙ ap (λ (q : Answered). one_more q.counts told.finding) is ∙ counts_more l told

    pub one_quiet : listed (l ++ (told ∷ [])) ≡ listed l
        → result_means (result_of o.anomalies o.anomaly_count (set o.reports o.report_count r) (o.report_count + 1) n) ≡ answered (l ++ (told ∷ []))
    one_quiet same =
        five
        (ap (λ (q : Answered). q.anomalies) is ∙ ap (pad 8 blank_anomaly) (sym same))
        (count_is ∙ ap length (sym same))
        (map-set report_means o.reports o.report_count r ∙ stored.1)
        stored.0
        counts_are

    pub one_listed : (a : SignalAnomaly)
        → o.anomaly_count < 8
        → (a ∷ []) ≡ flagged told
        → result_means (result_of (set o.anomalies o.anomaly_count a) (o.anomaly_count + 1) (set o.reports o.report_count r) (o.report_count + 1) n) ≡ answered (l ++ (told ∷ []))
    one_listed a some h =
        let put = pushed 8 blank_anomaly (listed l) a (ap (λ (q : Answered). q.anomalies) is) count_is some (listed_one l told a (omega (arith, count_is)) h) in
        five put.1 put.0 (map-set report_means o.reports o.report_count r ∙ stored.1) stored.0 counts_are
