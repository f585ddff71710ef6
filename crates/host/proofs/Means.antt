-- Document 02, T-06, for a host: a detector that a call made has a finite mean, and a lent one whose mean was finite keeps a finite one, by each exported call.
-- Over what the promises tell. Assumes nothing.
use mathlib.Core.Path.{sym, subst}
use Prim.Native.Nat.{ℕ}
use lib.Ieee.{Float}
use contract.Lifetimes.{Lfts}
use denote.MutBor.{MutBor}
use Rattle.detector.specs.declared.EwmaDetector.{EwmaDetector}
use Rattle.detector.specs.Answers.{Configured, configured, unconfigured}
use Rattle.detector.specs.Ewma.{idle, made_of, reset_of}
use Rattle.detector.specs.Calls.{takes, resets, recalibrates, or_as_it_was}
use Rattle.detector.proofs.Means.{FiniteMean, after_finite, settings_finite}
use Rattle.host.specs.declared.MadeDetector.{MadeDetector}
use Rattle.host.specs.declared.SampleAnswer.{SampleAnswer}
use Rattle.host.specs.Answers.{handed}
use Rattle.host.proofs.detector_update.Reads as detector-update
use Rattle.host.proofs.detector_set_freeze_duration.Reads as detector-set-freeze-duration
use Rattle.host.proofs.detector_recalibrate.Reads as detector-recalibrate
use Rattle.host.proofs.detector_new.Reads as detector-new
use Rattle.host.proofs.detector_with_options.Reads as detector-with-options

-- ---- made, or what stands beside a refusal

handed_finite : (d : EwmaDetector) (c : Configured) → FiniteMean (or_as_it_was d c) → FiniteMean (handed d c).detector
handed_finite d (configured e) m = m
handed_finite d (unconfigured n) m = m

pub detector_new_finite : (κs : Lfts 0) (alpha threshold : Float) (m : MadeDetector) (s : _) → detector-new.Learnt κs (alpha, (threshold, tt)) m s → FiniteMean m.detector
detector_new_finite κs alpha threshold m s p = subst (λ (m : MadeDetector). FiniteMean m.detector) (sym p) (handed_finite idle (made_of alpha threshold 10 5) (settings_finite alpha threshold 10 5))

pub detector_with_options_finite : (κs : Lfts 0) (alpha threshold : Float) (freeze warmup : ℕ) (m : MadeDetector) (s : _)
    → detector-with-options.Learnt κs (alpha, (threshold, (freeze, (warmup, tt)))) m s
    → FiniteMean m.detector
detector_with_options_finite κs alpha threshold freeze warmup m s p =
    subst (λ (m : MadeDetector). FiniteMean m.detector) (sym p) (handed_finite idle (made_of alpha threshold freeze warmup) (settings_finite alpha threshold freeze warmup))

-- ---- lent

module _ (κs : Lfts 1) (lent : MutBor EwmaDetector) (was : FiniteMean lent.now) where
  pub detector_update_keeps_finite : (x : Float) (r : SampleAnswer) (s : _) → detector-update.Learnt κs (lent, (x, tt)) r s → FiniteMean s.0.now
  detector_update_keeps_finite x r s p = subst FiniteMean (sym p.0) (after_finite lent.now (takes x) was)

  pub detector_set_freeze_duration_keeps_finite : (k r : ℕ) (s : _) → detector-set-freeze-duration.Learnt κs (lent, (k, tt)) r s → FiniteMean s.0.now
  detector_set_freeze_duration_keeps_finite k r s p =
      subst FiniteMean (sym p.0) (handed_finite lent.now (reset_of lent.now k) (after_finite lent.now (resets k) was))

  pub detector_recalibrate_keeps_finite : (x : Float) (r : Unit {0}) (s : _) → detector-recalibrate.Learnt κs (lent, (x, tt)) r s → FiniteMean s.0.now
  detector_recalibrate_keeps_finite x r s p = subst FiniteMean (sym p) (after_finite lent.now (recalibrates x) was)
