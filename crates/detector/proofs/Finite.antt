-- A score is finite, so never a NaN, whatever the detector and the sample. Assumes nothing.
use mathlib.Core.Path.{◌≡◌, refl, sym, ap, ◌∙◌}
use mathlib.Core.Bool.{Bool, true}
use lib.Ieee.{Float, binary32, div, lt, of_bits}
use lib.Ieee.Scale.{finite}
use Rattle.std.proofs.lemmas.Bool.{cond_both}
use Rattle.detector.specs.declared.AnomalyScore.{AnomalyScore}
use Rattle.detector.specs.declared.EwmaDetector.{EwmaDetector}
use Rattle.detector.specs.Answers.{warming, scored}
use Rattle.detector.specs.Ewma.{Sampled, zero32, least32, eps32, max32, magnitude, sqrt_approx, floored_variance, scaled, unscaled, score_at, score_of, distance, updated}
use Rattle.detector.proofs.Samples.{Which, was_ignored, was_first, was_warming, was_past, which, not_finite_ignored, first_sample_lem, warming_folded, past_scored, was_scored}

pub zero_finite : finite zero32 ≡ true
unfolding of_bits
zero_finite = refl

largest_finite : finite max32 ≡ true
unfolding of_bits
largest_finite = refl

scaled_finite : (threshold z : Float) → finite (scaled threshold z).z_score ≡ true
scaled_finite threshold z = cond_both (finite z) _ _ (λ (s : AnomalyScore). finite s.z_score ≡ true) (λ e. e) (λ _. largest_finite)

unscaled_finite : (a : Float) → finite (unscaled a).z_score ≡ true
unscaled_finite a = cond_both (lt eps32 a) _ _ (λ z. finite z ≡ true) (λ _. largest_finite) (λ _. zero_finite)

pub score_finite : (d : EwmaDetector) (diff : Float) → finite (score_of d diff).z_score ≡ true
unfolding score_of score_at
score_finite d diff =
    let deviation : Float = sqrt_approx (floored_variance d.mean d.variance) in
    let a : Float = magnitude diff in
    cond_both (lt least32 deviation) _ _ (λ (s : AnomalyScore). finite s.z_score ≡ true) (λ _. scaled_finite d.z_threshold (div binary32 a deviation)) (λ _. unscaled_finite a)

pub scored_finite : (d : EwmaDetector) (value z : Float) (flag : Bool) → (updated d value).said ≡ scored z flag → finite z ≡ true
scored_finite d value z flag e = ap finite (was_scored d value z flag e).score ∙ score_finite d (distance d value)

pub warming_finite : (d : EwmaDetector) (value z : Float) (flag : Bool) → (updated d value).said ≡ warming z flag → finite z ≡ true
warming_finite d value z flag e = go (which d value)
  where
    said : {u : Sampled} → updated d value ≡ u → u.said ≡ warming z flag
    said h = sym (ap (λ (u : Sampled). u.said) h) ∙ e

    go : Which d value → finite z ≡ true
    go (was_ignored f) = let h = said (not_finite_ignored d value f) in cc
    go (was_first f n) = let h = said (first_sample_lem d value f n) in cc
    go (was_warming f n w) = let h = said (warming_folded d value f n w) in let same : zero32 ≡ z = cc in ap finite (sym same) ∙ zero_finite
    go (was_past f p) = let h = said (past_scored d value p f) in cc
