-- Two results that a promise of this crate allows are equal, with what is left in the lent counts, for each public call. Assumes nothing.
use mathlib.Core.Path.{◌≡◌, refl, sym, ap, ◌∙◌}
use mathlib.Core.Bool.{Bool, cond}
use mathlib.Core.List.{List}
use Prim.Native.Nat.{ℕ}
use lib.Dec.{eqb}
use Rattle.bits.proofs.Promise.{Determines, DeterminesLent}
use Rattle.std.specs.Prelude.{Result, Ok, Err}
use Rattle.models.specs.declared.Changed.{Changed}
use Rattle.models.specs.declared.Seen.{Seen}
use Rattle.models.specs.declared.Misfit.{Misfit}
use Rattle.models.specs.declared.HistogramDetector.{HistogramDetector}
use Rattle.models.specs.declared.MarkovDetector.{MarkovDetector}
use lib.Ieee.{Float}
use Rattle.models.specs.Counts.{misfit, answer_means, Scored, scored, unscored, probability_means}
use Rattle.models.specs.Histogram.{Binned, histogram_means, Judged, judged, unjudged, judgement_means}
use Rattle.models.specs.Markov.{Stated, markov_means}
use Rattle.models.proofs.HistogramDetector.new.Reads as new
use Rattle.models.proofs.HistogramDetector.observe.Reads as observe
use Rattle.models.proofs.HistogramDetector.probability.Reads as asked
use Rattle.models.proofs.HistogramDetector.is_anomalous.Reads as is-anomalous
use Rattle.models.proofs.HistogramDetector.reset.Reads as reset
use Rattle.models.proofs.HistogramDetector.saturated.Reads as saturated
use Rattle.models.proofs.MarkovDetector.new.Reads as states
use Rattle.models.proofs.MarkovDetector.observe_transition.Reads as observe-transition
use Rattle.models.proofs.MarkovDetector.score_transition.Reads as score-transition
use Rattle.models.proofs.MarkovDetector.reset.Reads as states_reset
use Rattle.models.proofs.MarkovDetector.saturated.Reads as states-saturated
use Rattle.models.proofs.U8FromMisfit.from.Reads as number
use Rattle.models.proofs.SeenDefault.default.Reads as seen-default

-- ---- the meaning of an answer tells all answers apart

abbrev answer_for : ℕ → Result (Unit {0}) Misfit
answer_for n = cond (eqb n 0) (Ok tt) (Err misfit)

same_answer : (a : Result (Unit {0}) Misfit) → answer_for (answer_means a) ≡ a
same_answer (Ok u) = refl
same_answer (Err e) = refl

pub answer_settled : (a b : Result (Unit {0}) Misfit) → answer_means a ≡ answer_means b → a ≡ b
answer_settled a b h = sym (same_answer a) ∙ ap answer_for h ∙ same_answer b

abbrev probability_for : Scored → Result Float Misfit
probability_for (scored p) = Ok p
probability_for (unscored n) = Err misfit

same_probability : (a : Result Float Misfit) → probability_for (probability_means a) ≡ a
same_probability (Ok p) = refl
same_probability (Err e) = refl

pub probability_settled : (a b : Result Float Misfit) → probability_means a ≡ probability_means b → a ≡ b
probability_settled a b h = sym (same_probability a) ∙ ap probability_for h ∙ same_probability b

abbrev judgement_for : Judged → Result Bool Misfit
judgement_for (judged flag) = Ok flag
judgement_for (unjudged n) = Err misfit

same_judgement : (a : Result Bool Misfit) → judgement_for (judgement_means a) ≡ a
same_judgement (Ok flag) = refl
same_judgement (Err e) = refl

pub judgement_settled : (a b : Result Bool Misfit) → judgement_means a ≡ judgement_means b → a ≡ b
judgement_settled a b h = sym (same_judgement a) ∙ ap judgement_for h ∙ same_judgement b

-- what a call that changes a model leaves, with the counts
histogram_settled : (a b : Changed HistogramDetector) (c d : List ℕ) → histogram_means a c ≡ histogram_means b d → (a ≡ b) × (c ≡ d)
histogram_settled a b c d h =
    let x = answer_settled a.answer b.answer (ap (λ (r : Binned). r.number) h) in
    let m = ap (λ (r : Binned). r.model) h in
    (λ i. record { answer = x i; model = m i }, ap (λ (r : Binned). r.counts) h)

markov_settled : (a b : Changed MarkovDetector) (c d e f : List ℕ) → markov_means a c e ≡ markov_means b d f → (a ≡ b) × (◌≡◌ {A = List ℕ × List ℕ} (c, e) (d, f))
markov_settled a b c d e f h =
    let x = answer_settled a.answer b.answer (ap (λ (r : Stated). r.number) h) in
    let m = ap (λ (r : Stated). r.model) h in
    (λ i. record { answer = x i; model = m i }, ap (λ (r : Stated). (r.cells, r.rows)) h)

-- ---- the calls

pub new_determined : DeterminesLent (λ κs s. s.1.0.now) new.Learnt
new_determined κs a r q s t p p' = histogram_settled r q s.1.0.now t.1.0.now (p ∙ sym p')

pub observe_determined : DeterminesLent (λ κs s. s.1.0.now) observe.Learnt
observe_determined κs a r q s t p p' = histogram_settled r q s.1.0.now t.1.0.now (p ∙ sym p')

pub probability_determined : Determines asked.Learnt
probability_determined κs a r q s t p p' = probability_settled r q (p ∙ sym p')

pub is_anomalous_determined : Determines is-anomalous.Learnt
is_anomalous_determined κs a r q s t p p' = judgement_settled r q (p ∙ sym p')

pub reset_determined : DeterminesLent (λ κs s. s.1.0.now) reset.Learnt
reset_determined κs a r q s t p p' = histogram_settled r q s.1.0.now t.1.0.now (p ∙ sym p')

pub saturated_determined : Determines saturated.Learnt
saturated_determined κs a r q s t p p' = p ∙ sym p'

pub states_new_determined : DeterminesLent {Lent = List ℕ × List ℕ} (λ κs s. (s.1.0.now, s.1.1.0.now)) states.Learnt
states_new_determined κs a r q s t p p' = markov_settled r q s.1.0.now t.1.0.now s.1.1.0.now t.1.1.0.now (p ∙ sym p')

pub observe_transition_determined : DeterminesLent {Lent = List ℕ × List ℕ} (λ κs s. (s.1.0.now, s.1.1.0.now)) observe-transition.Learnt
observe_transition_determined κs a r q s t p p' = markov_settled r q s.1.0.now t.1.0.now s.1.1.0.now t.1.1.0.now (p ∙ sym p')

pub score_transition_determined : Determines score-transition.Learnt
score_transition_determined κs a r q s t p p' = probability_settled r q (p ∙ sym p')

pub states_reset_determined : DeterminesLent {Lent = List ℕ × List ℕ} (λ κs s. (s.1.0.now, s.1.1.0.now)) states_reset.Learnt
states_reset_determined κs a r q s t p p' = markov_settled r q s.1.0.now t.1.0.now s.1.1.0.now t.1.1.0.now (p ∙ sym p')

pub states_saturated_determined : Determines states-saturated.Learnt
states_saturated_determined κs a r q s t p p' = p ∙ sym p'

pub number_determined : Determines number.Learnt
number_determined κs a r q s t p p' = p ∙ sym p'

-- two maps with the same four words are the same
same_seen : (x y : Seen) → x.from_0 ≡ y.from_0 → x.from_64 ≡ y.from_64 → x.from_128 ≡ y.from_128 → x.from_192 ≡ y.from_192 → x ≡ y
same_seen x y a b c d =
    ap (λ n. record { from_0 = n; from_64 = x.from_64; from_128 = x.from_128; from_192 = x.from_192 }) a
    ∙ ap (λ n. record { from_0 = y.from_0; from_64 = n; from_128 = x.from_128; from_192 = x.from_192 }) b
    ∙ ap (λ n. record { from_0 = y.from_0; from_64 = y.from_64; from_128 = n; from_192 = x.from_192 }) c
    ∙ ap (λ n. record { from_0 = y.from_0; from_64 = y.from_64; from_128 = y.from_128; from_192 = n }) d

pub seen_default_determined : Determines seen-default.Learnt
seen_default_determined κs a r q s t p p' = same_seen r q (p.0 ∙ sym p'.0) (p.1.0 ∙ sym p'.1.0) (p.1.1.0 ∙ sym p'.1.1.0) (p.1.1.1 ∙ sym p'.1.1.1)
