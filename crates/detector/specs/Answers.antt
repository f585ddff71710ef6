-- What the detector's calls answer, in document 01's numbers and words: "Refusal numbers", 7 and 8, and "The detector".
-- Assumes nothing.
use Rattle.std.specs.Prelude.{ℕ, Bool, false, Float, Result, Ok, Err}
use Rattle.std.specs.Float.{binary32}
use Rattle.std.specs.Float.Ieee.{of_bits}
use Rattle.detector.specs.declared.AnomalyScore.{AnomalyScore}
use Rattle.detector.specs.declared.EwmaDetector.{EwmaDetector}
use Rattle.detector.specs.declared.DetectorError.{DetectorError}
use Rattle.detector.specs.declared.DetectorError.TheVariants.{BadSettings, BadFreezeDuration}
use Rattle.detector.specs.declared.Verdict.{Verdict}
use Rattle.detector.specs.declared.Verdict.TheVariants as verdict

-- A detector with the settings asked for, or a refusal by its number.
pub data Configured : Type 0 where
  configured : EwmaDetector → Configured
  unconfigured : ℕ → Configured

abbrev pub refusal_number : DetectorError → ℕ
refusal_number BadSettings = 7
refusal_number BadFreezeDuration = 8

-- What `new` and `with_options` answer.
abbrev pub made_means : Result EwmaDetector DetectorError → Configured
made_means (Ok d) = configured d
made_means (Err e) = unconfigured (refusal_number e)

-- What `set_freeze_duration` answers.
abbrev pub reset_means : Result EwmaDetector DetectorError → Configured
reset_means = made_means

-- What a sample was to the detector, with the score and the flag that the Rust answers for it; for the first two it answers none.
pub data Heard : Type 0 where
  ignored first_sample : Heard
  warming scored : Float → Bool → Heard

abbrev pub scored_as : AnomalyScore → Heard
scored_as s = scored s.z_score s.is_anomalous

-- Warming scores 0 and is not flagged.
abbrev pub verdict_means : Verdict → Heard
verdict_means verdict.Ignored = ignored
verdict_means verdict.First = first_sample
verdict_means verdict.Warming = warming (of_bits binary32 0) false
verdict_means (verdict.Scored s) = scored_as s

-- The Rust's answer: no score, or a score and whether it is anomalous.
pub data Score : Type 0 where
  no_score : Score
  score : Float → Bool → Score

abbrev pub rust_score : Heard → Score
rust_score ignored = no_score
rust_score first_sample = no_score
rust_score (warming z flag) = score z flag
rust_score (scored z flag) = score z flag
