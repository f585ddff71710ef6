-- The Rust's own step, which document 02, T-06, amends: document 01, "The detector", as it stood, where the mean has no guard. No promise cites it; it is
-- here so that theorems can say where a step is the Rust's and what it is elsewhere (proofs/Means.antt).
-- Assumes nothing.
use Rattle.std.specs.Prelude.{Bool, not, false, ◌||◌, cond, List, [], ◌∷◌, ltb, eqb, Float}
use Rattle.std.specs.Float.Ieee.Scale.{finite}
use Rattle.detector.specs.declared.EwmaDetector.{EwmaDetector}
use Rattle.detector.specs.Answers.{ignored, first_sample, warming, scored_as}
use Rattle.detector.specs.Ewma.{Sampled, zero32, with_stats, rust_folded, held, distance, score_of, reset_of, recalibrated}
use Rattle.detector.specs.Calls.{Call, takes, resets, recalibrates, or_as_it_was}

-- folded only where no freeze runs and the sample is not anomalous
unfoldable pub rust_settled : EwmaDetector → Float → Bool → EwmaDetector
rust_settled d diff anomalous = cond (d.frozen || anomalous) (held d) (rust_folded d diff)

-- one sample: not finite, the first one, in warm-up, and else scored
unfoldable pub rust_updated : EwmaDetector → Float → Sampled
rust_updated d value =
    cond (not (finite value)) (record { detector = d; said = ignored })
    (cond (eqb d.count 0) (record { detector = with_stats d value zero32 1; said = first_sample })
    (cond (ltb d.count d.warmup_count) (record { detector = rust_folded d (distance d value); said = warming zero32 false })
    (record { detector = rust_settled d (distance d value) (score_of d (distance d value)).is_anomalous; said = scored_as (score_of d (distance d value)) })))

-- the calls, of which only a sample's is amended
abbrev pub rust_after : EwmaDetector → Call → EwmaDetector
rust_after d (takes x) = (rust_updated d x).detector
rust_after d (resets k) = or_as_it_was d (reset_of d k)
rust_after d (recalibrates x) = recalibrated d x

abbrev pub rust_ran : EwmaDetector → List Call → EwmaDetector
rust_ran d [] = d
rust_ran d (c ∷ cs) = rust_ran (rust_after d c) cs

-- ---- the amendment, on what the Rust's step made of d: where the mean is not finite, mean and variance are those of d, and all else is the Rust's
abbrev pub amended : EwmaDetector → Sampled → Sampled
amended d u = cond (finite u.detector.mean) u (record { detector = with_stats u.detector d.mean d.variance u.detector.count; said = u.said })
