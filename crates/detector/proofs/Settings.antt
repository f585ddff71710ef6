-- No call but `set_freeze_duration` alters a setting, and that one alters no other: alpha, threshold, freeze duration, warm-up. Over what the promises tell.
-- Assumes nothing.
use mathlib.Core.Path.{◌≡◌, refl, sym, subst}
use mathlib.Core.Bool.{Bool, true, false, ◌||◌, cond}
use Prim.Native.Nat.{ℕ}
use lib.Dec.{eqb}
use Rattle.std.proofs.lemmas.Bool.{cond_both}
use lib.Ieee.{Float}
use contract.Lifetimes.{Lfts}
use denote.MutBor.{MutBor}
use Rattle.std.specs.Prelude.{Ok}
use Rattle.detector.specs.declared.EwmaDetector.{EwmaDetector}
use Rattle.detector.specs.declared.Updated.{Updated}
use Rattle.detector.specs.declared.Verdict.{Verdict}
use Rattle.detector.specs.Answers.{configured, unconfigured}
use Rattle.detector.specs.Ewma.{Sampled, updated, folded, held, settled, distance, with_stats, with_duration, reset_of}
use Rattle.detector.proofs.Samples.{Which, was_ignored, was_first, was_warming, was_past, which, not_finite_ignored, first_sample_lem, warming_folded, past_scored, anomalous, either_fold, either_recalibrated}
use Rattle.detector.proofs.update_in_place.Reads as update-in-place
use Rattle.detector.proofs.EwmaDetector.update.Reads as update
use Rattle.detector.proofs.EwmaDetector.set_freeze_duration.Reads as set-freeze-duration
use Rattle.detector.proofs.EwmaDetector.recalibrate.Reads as recalibrate

-- two detectors with the same settings
pub record SameSettings (d e : EwmaDetector) : Type 0 where
  pub alpha : e.alpha ≡ d.alpha
  pub threshold : e.z_threshold ≡ d.z_threshold
  pub freeze : e.freeze_duration ≡ d.freeze_duration
  pub warmup : e.warmup_count ≡ d.warmup_count

folded_keeps : (d : EwmaDetector) (diff : Float) → SameSettings d (folded d diff)
folded_keeps d diff = either_fold (SameSettings d) d diff same same
  where
    same : {m v : Float} {n : ℕ} → SameSettings d (with_stats d m v n)
    same = record { alpha = refl; threshold = refl; freeze = refl; warmup = refl }

settled_keeps : (d : EwmaDetector) (diff : Float) (flag : Bool) → SameSettings d (settled d diff flag)
unfolding settled held
settled_keeps d diff flag =
    cond_both (d.frozen || flag) _ _ (SameSettings d) (λ _. record { alpha = refl; threshold = refl; freeze = refl; warmup = refl }) (λ _. folded_keeps d diff)

updated_keeps : (d : EwmaDetector) (x : Float) → SameSettings d (updated d x).detector
updated_keeps d x = go (which d x)
  where
    from : {u : Sampled} → updated d x ≡ u → SameSettings d u.detector → SameSettings d (updated d x).detector
    from e t = subst (λ (u : Sampled). SameSettings d u.detector) (sym e) t

    go : Which d x → SameSettings d (updated d x).detector
    go (was_ignored f) = from (not_finite_ignored d x f) (record { alpha = refl; threshold = refl; freeze = refl; warmup = refl })
    go (was_first f n) = from (first_sample_lem d x f n) (record { alpha = refl; threshold = refl; freeze = refl; warmup = refl })
    go (was_warming f n w) = from (warming_folded d x f n w) (folded_keeps d (distance d x))
    go (was_past f p) = from (past_scored d x p f) (settled_keeps d (distance d x) (anomalous d x))

pub update_keeps_settings : (κs : Lfts 0) (d : EwmaDetector) (x : Float) (r : Updated) (s : _) → update.Learnt κs (d, (x, tt)) r s → SameSettings d r.detector
update_keeps_settings κs d x r s p = subst (λ (u : Sampled). SameSettings d u.detector) (sym p) (updated_keeps d x)

pub update_in_place_keeps_settings : (κs : Lfts 1) (lent : MutBor EwmaDetector) (x : Float) (r : Verdict) (s : _)
    → update-in-place.Learnt κs (lent, (x, tt)) r s
    → SameSettings lent.now s.0.now
update_in_place_keeps_settings κs lent x r s p = subst (SameSettings lent.now) (sym p.0) (updated_keeps lent.now x)

pub recalibrate_keeps_settings : (κs : Lfts 0) (d : EwmaDetector) (x : Float) (e : EwmaDetector) (s : _) → recalibrate.Learnt κs (d, (x, tt)) e s → SameSettings d e
recalibrate_keeps_settings κs d x e s p =
    subst (SameSettings d) (sym p)
    (either_recalibrated (SameSettings d) d x
    (λ _. record { alpha = refl; threshold = refl; freeze = refl; warmup = refl })
    (record { alpha = refl; threshold = refl; freeze = refl; warmup = refl }))

-- the detector that `set_freeze_duration` answers is the one given, with the duration asked for and every other field as it was
pub duration_alone_altered : (κs : Lfts 0) (d : EwmaDetector) (k : ℕ) (e : EwmaDetector) (s : _)
    → set-freeze-duration.Learnt κs (d, (k, tt)) (Ok e) s
    → e ≡ with_duration d k
unfolding reset_of
duration_alone_altered κs d k e s p = go (eqb k 0) p
  where
    go : (b : Bool) → configured e ≡ cond b (unconfigured 8) (configured (with_duration d k)) → e ≡ with_duration d k
    go true h = absurd cc
    go false h = cc
