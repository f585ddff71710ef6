-- What a host can read off an answer: the verdict, the Rust's own score, and what `new`, `with_options` and `set_freeze_duration` answered. Assumes nothing.
use mathlib.Core.Path.{◌≡◌, refl, sym, ap, ◌∙◌}
use mathlib.Core.Bool.{true, cond}
use Prim.Native.Nat.{ℕ}
use lib.Dec.{ltb, eqb}
use lib.Ieee.{Float}
use lib.Ieee.Scale.{finite}
use Rattle.detector.specs.declared.EwmaDetector.{EwmaDetector}
use Rattle.std.specs.Prelude.{Result, Ok, Err}
use Rattle.detector.specs.declared.DetectorError.{DetectorError}
use Rattle.detector.specs.declared.DetectorError.TheVariants.{BadSettings, BadFreezeDuration}
use Rattle.detector.specs.declared.Verdict.{Verdict}
use Rattle.detector.specs.Answers.{Heard, ignored, first_sample, warming, scored, Score, no_score, score, rust_score, made_means, reset_means, verdict_means}
use Rattle.detector.specs.Ewma.{updated}
use Rattle.detector.proofs.Determined.{verdict_settled}
use Rattle.detector.proofs.Finite.{zero_finite, warming_finite, scored_finite}
use Rattle.host.specs.declared.MadeDetector.{MadeDetector}
use Rattle.host.specs.declared.SampleAnswer.{SampleAnswer}
use Rattle.host.specs.Answers.{answer_of, handed}

-- ---- an answer tells the verdicts apart

-- what an answer says that the sample was
abbrev pub heard_in : SampleAnswer → Heard
heard_in a =
    cond (eqb a.kind 0) ignored
    (cond (eqb a.kind 1) first_sample
    (cond (eqb a.kind 2) (warming a.z_score a.is_anomalous)
    (scored a.z_score a.is_anomalous)))

pub verdict_read_back : (h : Heard) → heard_in (answer_of h) ≡ h
verdict_read_back ignored = refl
verdict_read_back first_sample = refl
verdict_read_back (warming z flag) = refl
verdict_read_back (scored z flag) = refl

pub answer_settled : (a b : Verdict) → answer_of (verdict_means a) ≡ answer_of (verdict_means b) → a ≡ b
answer_settled a b e = verdict_settled a b (sym (verdict_read_back (verdict_means a)) ∙ ap heard_in e ∙ verdict_read_back (verdict_means b))

-- the Rust's answer: below kind 2 it gives no score, from there on the score and the flag that stand in the answer
abbrev pub score_in : SampleAnswer → Score
score_in a = cond (ltb a.kind 2) no_score (score a.z_score a.is_anomalous)

pub score_read_back : (h : Heard) → score_in (answer_of h) ≡ rust_score h
score_read_back ignored = refl
score_read_back first_sample = refl
score_read_back (warming z flag) = refl
score_read_back (scored z flag) = refl

-- a score is a finite number
pub score_is_finite : (d : EwmaDetector) (value : Float) → finite (answer_of (updated d value).said).z_score ≡ true
score_is_finite d value = go (updated d value).said refl
  where
    go : (h : Heard) → (updated d value).said ≡ h → finite (answer_of h).z_score ≡ true
    go ignored e = zero_finite
    go first_sample e = zero_finite
    go (warming z flag) e = warming_finite d value z flag e
    go (scored z flag) e = scored_finite d value z flag e

-- ---- refusal 0 stands beside a detector with the settings asked for and nowhere else, so an answer tells all answers apart

-- the refusal that a number stands for
abbrev pub error_in : ℕ → DetectorError
error_in n = cond (eqb n 7) BadSettings BadFreezeDuration

abbrev pub made_in : MadeDetector → Result EwmaDetector DetectorError
made_in m = cond (eqb m.refusal 0) (Ok m.detector) (Err (error_in m.refusal))

abbrev pub reset_in : MadeDetector → Result EwmaDetector DetectorError
reset_in = made_in

module _ (otherwise : EwmaDetector) where
  pub made_read_back : (m : Result EwmaDetector DetectorError) → made_in (handed otherwise (made_means m)) ≡ m
  made_read_back (Ok d) = refl
  made_read_back (Err BadSettings) = refl
  made_read_back (Err BadFreezeDuration) = refl

  pub reset_read_back : (m : Result EwmaDetector DetectorError) → reset_in (handed otherwise (reset_means m)) ≡ m
  reset_read_back = made_read_back

  pub handed-made-settled : (a b : Result EwmaDetector DetectorError) → handed otherwise (made_means a) ≡ handed otherwise (made_means b) → a ≡ b
  handed-made-settled a b e = sym (made_read_back a) ∙ ap made_in e ∙ made_read_back b

  pub handed_reset_settled : (a b : Result EwmaDetector DetectorError) → handed otherwise (reset_means a) ≡ handed otherwise (reset_means b) → a ≡ b
  handed_reset_settled = handed-made-settled
