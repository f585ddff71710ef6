-- Two results that a promise of this crate allows are equal, for each public call. Assumes nothing.
use mathlib.Core.Path.{◌≡◌, refl, sym, ap, ◌∙◌}
use native.Mathlib.Omega.{arith}
use Rattle.std.specs.Prelude.{Result, Ok, Err}
use Rattle.detector.specs.declared.DetectorError.{DetectorError}
use Rattle.detector.specs.declared.DetectorError.TheVariants.{BadSettings, BadFreezeDuration}
use Rattle.detector.specs.declared.EwmaDetector.{EwmaDetector}
use Rattle.detector.specs.declared.Verdict.{Verdict}
use Rattle.detector.specs.declared.Verdict.TheVariants.{Ignored, First, Warming, Scored}
use Rattle.detector.specs.declared.Updated.{Updated}
use Rattle.detector.specs.Answers.{refusal_number, made_means, reset_means, verdict_means}
use Rattle.detector.specs.Ewma.{Sampled, updated_means}
use Rattle.bits.proofs.Promise.{Determines, DeterminesLent}
use Rattle.detector.proofs.sqrt_approx.Reads as sqrt-approx
use Rattle.detector.proofs.EwmaDetector.new.Reads as new
use Rattle.detector.proofs.EwmaDetector.with_options.Reads as with-options
use Rattle.detector.proofs.EwmaDetector.idle.Reads as idle
use Rattle.detector.proofs.EwmaDetector.update.Reads as update
use Rattle.detector.proofs.EwmaDetector.set_freeze_duration.Reads as set-freeze-duration
use Rattle.detector.proofs.EwmaDetector.recalibrate.Reads as recalibrate
use Rattle.detector.proofs.EwmaDetector.mean.Reads as mean
use Rattle.detector.proofs.EwmaDetector.variance.Reads as variance
use Rattle.detector.proofs.EwmaDetector.count.Reads as count
use Rattle.detector.proofs.update_in_place.Reads as update-in-place
use Rattle.detector.proofs.U8FromDetectorError.from.Reads as number

-- ---- the meaning of an answer tells all answers apart

pub refusal_settled : (a b : DetectorError) → refusal_number a ≡ refusal_number b → a ≡ b
refusal_settled BadSettings BadSettings h = refl
refusal_settled BadFreezeDuration BadFreezeDuration h = refl
refusal_settled BadSettings BadFreezeDuration h = absurd (omega arith)
refusal_settled BadFreezeDuration BadSettings h = absurd (omega arith)

pub made-settled : (a b : Result EwmaDetector DetectorError) → made_means a ≡ made_means b → a ≡ b
made-settled (Ok d) (Ok e) h = let same : d ≡ e = cc in ap Ok same
made-settled (Err a) (Err b) h = let same : refusal_number a ≡ refusal_number b = cc in ap Err (refusal_settled a b same)
made-settled (Ok d) (Err b) h = cc
made-settled (Err a) (Ok e) h = cc

pub reset_settled : (a b : Result EwmaDetector DetectorError) → reset_means a ≡ reset_means b → a ≡ b
reset_settled = made-settled

pub verdict_settled : (a b : Verdict) → verdict_means a ≡ verdict_means b → a ≡ b
verdict_settled Ignored Ignored h = refl
verdict_settled First First h = refl
verdict_settled Warming Warming h = refl
verdict_settled (Scored s) (Scored t) h =
    let z : s.z_score ≡ t.z_score = cc in
    let f : s.is_anomalous ≡ t.is_anomalous = cc in
    λ i. Scored (record { z_score = z i; is_anomalous = f i })
verdict_settled Ignored First h = cc
verdict_settled Ignored Warming h = cc
verdict_settled Ignored (Scored t) h = cc
verdict_settled First Ignored h = cc
verdict_settled First Warming h = cc
verdict_settled First (Scored t) h = cc
verdict_settled Warming Ignored h = cc
verdict_settled Warming First h = cc
verdict_settled Warming (Scored t) h = cc
verdict_settled (Scored s) Ignored h = cc
verdict_settled (Scored s) First h = cc
verdict_settled (Scored s) Warming h = cc

pub updated-settled : (a b : Updated) → updated_means a ≡ updated_means b → a ≡ b
updated-settled a b h =
    let d = ap (λ (u : Sampled). u.detector) h in
    let v = verdict_settled a.verdict b.verdict (ap (λ (u : Sampled). u.said) h) in
    λ i. record { detector = d i; verdict = v i }

-- ---- the calls

pub sqrt_approx_determined : Determines sqrt-approx.Learnt
sqrt_approx_determined κs a r q s t p p' = p ∙ sym p'

pub new_determined : Determines new.Learnt
new_determined κs a r q s t p p' = made-settled r q (p ∙ sym p')

pub with_options_determined : Determines with-options.Learnt
with_options_determined κs a r q s t p p' = made-settled r q (p ∙ sym p')

pub idle_determined : Determines idle.Learnt
idle_determined κs a r q s t p p' = p ∙ sym p'

pub update_determined : Determines update.Learnt
update_determined κs a r q s t p p' = updated-settled r q (p ∙ sym p')

-- the verdict, and the detector that was lent
pub update_in_place_determined : DeterminesLent (λ κs s. s.0.now) update-in-place.Learnt
update_in_place_determined κs a r q s t p p' = (verdict_settled r q (p.1 ∙ sym p'.1), p.0 ∙ sym p'.0)

pub set_freeze_duration_determined : Determines set-freeze-duration.Learnt
set_freeze_duration_determined κs a r q s t p p' = reset_settled r q (p ∙ sym p')

pub recalibrate_determined : Determines recalibrate.Learnt
recalibrate_determined κs a r q s t p p' = p ∙ sym p'

pub mean_determined : Determines mean.Learnt
mean_determined κs a r q s t p p' = p ∙ sym p'

pub variance_determined : Determines variance.Learnt
variance_determined κs a r q s t p p' = p ∙ sym p'

pub count_determined : Determines count.Learnt
count_determined κs a r q s t p p' = p ∙ sym p'

pub number_determined : Determines number.Learnt
number_determined κs a r q s t p p' = p ∙ sym p'
