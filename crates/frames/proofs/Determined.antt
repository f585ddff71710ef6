-- Two results that a promise of this crate allows are equal, for each public call. Assumes nothing.
use mathlib.Core.Path.{◌≡◌, refl, sym, ap, ◌∙◌}
use mathlib.Core.List.{List, [], ◌∷◌, map}
use Rattle.bits.proofs.Promise.{Determines}
use Rattle.frames.specs.declared.Outcome.{Outcome}
use Rattle.frames.specs.declared.Outcome.TheVariants.{PassedOver, NoValue, First, Warming, Scored}
use Rattle.frames.specs.declared.Report.{Report}
use Rattle.frames.specs.declared.SignalIdsResult.{SignalIdsResult}
use Rattle.frames.specs.declared.Processed.{Processed}
use Rattle.frames.specs.Frames.{Finding, passed_over, no_value, first_sample, warming_up, scored, outcome_means, Reported, report_means, Answered, result_means, Framed, processed_means}
use Rattle.frames.proofs.payload_len.Reads as payload-len
use Rattle.frames.proofs.effective_can_id.Reads as effective-can-id
use Rattle.frames.proofs.process_frame.Reads as process-frame
use Rattle.frames.proofs.process_lent_frame.Reads as process-lent-frame
use Rattle.frames.proofs.process_raw_frame.Reads as process-raw-frame
use Rattle.frames.proofs.CountsDefault.default.Reads as counts-default
use Rattle.frames.proofs.SignalAnomalyDefault.default.Reads as anomaly-default
use Rattle.frames.specs.declared.Counts.{Counts}
use Rattle.frames.specs.declared.SignalAnomaly.{SignalAnomaly}

-- ---- the meaning of an answer tells all answers apart: the five cases of an outcome with their values and reasons, a report, a result
abbrev outcome_for : Finding → Outcome
outcome_for passed_over = PassedOver
outcome_for (no_value r) = NoValue r
outcome_for (first_sample v) = First v
outcome_for (warming_up v) = Warming v
outcome_for (scored v z flag) = Scored v z flag

same_outcome : (o : Outcome) → outcome_for (outcome_means o) ≡ o
same_outcome PassedOver = refl
same_outcome (NoValue r) = refl
same_outcome (First v) = refl
same_outcome (Warming v) = refl
same_outcome (Scored v z flag) = refl

pub outcome_settled : (a b : Outcome) → outcome_means a ≡ outcome_means b → a ≡ b
outcome_settled a b h = sym (same_outcome a) ∙ ap outcome_for h ∙ same_outcome b

abbrev report_for : Reported → Report
report_for r = record { slot = r.slot; outcome = outcome_for r.finding }

same_report : (r : Report) → report_for (report_means r) ≡ r
same_report r = ap (λ (o : Outcome). (record { slot = r.slot; outcome = o })) (same_outcome r.outcome)

same-reports : (l : List Report) → map report_for (map report_means l) ≡ l
same-reports [] = refl
same-reports (r ∷ l) = ap (λ (q : Report). q ∷ map report_for (map report_means l)) (same_report r) ∙ ap (λ (m : List Report). r ∷ m) (same-reports l)

abbrev result_for : Answered → SignalIdsResult
result_for a = record { anomalies = a.anomalies; anomaly_count = a.anomaly_count; reports = map report_for a.reports; report_count = a.report_count; counts = a.counts }

same_result : (r : SignalIdsResult) → result_for (result_means r) ≡ r
same_result r =
    ap (λ (l : List Report). (record { anomalies = r.anomalies; anomaly_count = r.anomaly_count; reports = l; report_count = r.report_count; counts = r.counts })) (same-reports r.reports)

pub result_settled : (a b : SignalIdsResult) → result_means a ≡ result_means b → a ≡ b
result_settled a b h = sym (same_result a) ∙ ap result_for h ∙ same_result b

abbrev pub processed_for : Framed → Processed
processed_for f = record { engine = f.engine; result = result_for f.result }

same-processed : (p : Processed) → processed_for (processed_means p) ≡ p
same-processed p = ap (λ (r : SignalIdsResult). (record { engine = p.engine; result = r })) (same_result p.result)

pub processed-settled : (a b : Processed) → processed_means a ≡ processed_means b → a ≡ b
processed-settled a b h = sym (same-processed a) ∙ ap processed_for h ∙ same-processed b

-- and each meaning is one of a result
outcome_has : (f : Finding) → outcome_means (outcome_for f) ≡ f
outcome_has passed_over = refl
outcome_has (no_value r) = refl
outcome_has (first_sample v) = refl
outcome_has (warming_up v) = refl
outcome_has (scored v z flag) = refl

reports_have : (l : List Reported) → map report_means (map report_for l) ≡ l
reports_have [] = refl
reports_have (r ∷ l) =
    ap (λ (f : Finding). (record { slot = r.slot; finding = f }) ∷ map report_means (map report_for l)) (outcome_has r.finding) ∙ ap (λ (m : List Reported). r ∷ m) (reports_have l)

pub result_has : (f : Framed) → result_means (processed_for f).result ≡ f.result
result_has f =
    let a = f.result in
    ap (λ (l : List Reported). (record { anomalies = a.anomalies; anomaly_count = a.anomaly_count; reports = l; report_count = a.report_count; counts = a.counts })) (reports_have a.reports)

pub framed_has : (f : Framed) → processed_means (processed_for f) ≡ f
framed_has f = ap (λ (a : Answered). (record { engine = f.engine; result = a })) (result_has f)

-- ---- the calls
pub payload_len_determined : Determines payload-len.Learnt
payload_len_determined κs a r q s t p p' = p ∙ sym p'

pub effective_can_id_determined : Determines effective-can-id.Learnt
effective_can_id_determined κs a r q s t p p' = p ∙ sym p'

pub process_frame_determined : Determines process-frame.Learnt
process_frame_determined κs a r q s t p p' = processed-settled r q (p ∙ sym p')

pub process_lent_frame_determined : Determines process-lent-frame.Learnt
process_lent_frame_determined κs a r q s t p p' = processed-settled r q (p ∙ sym p')

pub process_raw_frame_determined : Determines process-raw-frame.Learnt
process_raw_frame_determined κs a r q s t p p' = processed-settled r q (p ∙ sym p')

-- two counts, or two anomalies, with the same fields are the same
same_counts : (x y : Counts) → x.condition_not_met ≡ y.condition_not_met → x.outside ≡ y.outside → x.not_finite ≡ y.not_finite → x ≡ y
same_counts x y a b c =
    ap (λ n. record { condition_not_met = n; outside = x.outside; not_finite = x.not_finite }) a
    ∙ ap (λ n. record { condition_not_met = y.condition_not_met; outside = n; not_finite = x.not_finite }) b
    ∙ ap (λ n. record { condition_not_met = y.condition_not_met; outside = y.outside; not_finite = n }) c

same_anomaly : (x y : SignalAnomaly) → x.slot ≡ y.slot → x.z_score ≡ y.z_score → x.physical_value ≡ y.physical_value → x ≡ y
same_anomaly x y a b c =
    ap (λ n. record { slot = n; z_score = x.z_score; physical_value = x.physical_value }) a
    ∙ ap (λ n. record { slot = y.slot; z_score = n; physical_value = x.physical_value }) b
    ∙ ap (λ n. record { slot = y.slot; z_score = y.z_score; physical_value = n }) c

pub counts_default_determined : Determines counts-default.Learnt
counts_default_determined κs a r q s t p p' = same_counts r q (p.0 ∙ sym p'.0) (p.1.0 ∙ sym p'.1.0) (p.1.1 ∙ sym p'.1.1)

pub anomaly_default_determined : Determines anomaly-default.Learnt
anomaly_default_determined κs a r q s t p p' = same_anomaly r q (p.0 ∙ sym p'.0) (p.1.0 ∙ sym p'.1.0) (p.1.1 ∙ sym p'.1.1)
