-- The calls that change a detector, and what it is after them: document 01, "The detector".
-- Assumes nothing.
use Rattle.std.specs.Prelude.{List, [], ◌∷◌, ℕ, Float}
use Rattle.detector.specs.declared.EwmaDetector.{EwmaDetector}
use Rattle.detector.specs.Answers.{Configured, configured, unconfigured}
use Rattle.detector.specs.Ewma.{updated, reset_of, recalibrated}

-- a call with its argument: a sample (`update`, `update_in_place`), a freeze duration (`set_freeze_duration`), a new mean (`recalibrate`)
pub data Call : Type 0 where
  takes : Float → Call
  resets : ℕ → Call
  recalibrates : Float → Call

-- a refused duration leaves the detector as it was
abbrev pub or_as_it_was : EwmaDetector → Configured → EwmaDetector
or_as_it_was d (configured e) = e
or_as_it_was d (unconfigured n) = d

abbrev pub after : EwmaDetector → Call → EwmaDetector
after d (takes x) = (updated d x).detector
after d (resets k) = or_as_it_was d (reset_of d k)
after d (recalibrates x) = recalibrated d x

-- the detector after the calls, in their order
abbrev pub ran : EwmaDetector → List Call → EwmaDetector
ran d [] = d
ran d (c ∷ cs) = ran (after d c) cs
