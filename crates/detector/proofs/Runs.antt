-- A run of compiled calls on one detector, that it is the run of the functions that their promises cite, and what it keeps if each call does. Assumes nothing.
use mathlib.Core.Path.{◌≡◌, refl, sym, ap, ◌∙◌, subst}
use mathlib.Core.List.{List, [], ◌∷◌}
use mathlib.Core.Bool.{Bool, true, false}
use Prim.Native.Nat.{ℕ}
use lib.Dec.{eqb}
use lib.Ieee.{Float}
use contract.Lifetimes.{Lfts}
use denote.MutBor.{MutBor}
use Rattle.std.specs.Prelude.{Ok, Err}
use Rattle.detector.specs.declared.DetectorError.{DetectorError}
use Rattle.detector.specs.declared.DetectorError.TheVariants.{BadFreezeDuration}
use Rattle.detector.specs.declared.EwmaDetector.{EwmaDetector}
use Rattle.detector.specs.declared.Updated.{Updated}
use Rattle.detector.specs.declared.Verdict.{Verdict}
use Rattle.detector.specs.declared.Verdict.TheVariants.{Ignored, First, Warming, Scored}
use Rattle.detector.specs.Answers.{Configured, configured, reset_means}
use Rattle.detector.specs.Ewma.{Sampled, updated_means, updated, zero32, with_stats, folded, settled, score_of, distance, fresh, allowed, made_of, reset_of}
use Rattle.detector.specs.Ewma as ewma
use Rattle.detector.specs.Calls.{Call, takes, resets, recalibrates, or_as_it_was, after, ran}
use Rattle.std.proofs.lemmas.Bool.{cond-true, cond-false, cond_both}
use Rattle.detector.proofs.Samples.{Which, was_ignored, was_first, was_warming, was_past, which, not_finite_ignored, first_sample_lem, warming_folded, past_scored, anomalous}
use Rattle.detector.proofs.update_in_place.Reads as update-in-place
use Rattle.detector.proofs.EwmaDetector.new.Reads as new
use Rattle.detector.proofs.EwmaDetector.with_options.Reads as with-options
use Rattle.detector.proofs.EwmaDetector.idle.Reads as idle
use Rattle.detector.proofs.EwmaDetector.update.Reads as update
use Rattle.detector.proofs.EwmaDetector.set_freeze_duration.Reads as set-freeze-duration
use Rattle.detector.proofs.EwmaDetector.recalibrate.Reads as recalibrate

-- a call made the detector d; all that is known of it is what the call's promise tells
pub data MadeBy (d : EwmaDetector) : Type 0 where
  by_new : (κs : Lfts 0) (alpha threshold : Float) (s : _) → new.Learnt κs (alpha, (threshold, tt)) (Ok d) s → MadeBy d
  by_with_options : (κs : Lfts 0) (alpha threshold : Float) (freeze warmup : ℕ) (s : _)
      → with-options.Learnt κs (alpha, (threshold, (freeze, (warmup, tt)))) (Ok d) s
      → MadeBy d
  by_idle : (κs : Lfts 0) (s : _) → idle.Learnt κs tt d s → MadeBy d

-- a call took the detector d to e
pub data Step (d e : EwmaDetector) : Call → Type 0 where
  by_update : (κs : Lfts 0) (x : Float) (r : Updated) (s : _) → update.Learnt κs (d, (x, tt)) r s → e ≡ r.detector → Step d e (takes x)
  by_update_in_place : (κs : Lfts 1) (x : Float) (lent : MutBor EwmaDetector) (r : Verdict) (s : _)
      → update-in-place.Learnt κs (lent, (x, tt)) r s
      → lent.now ≡ d
      → e ≡ s.0.now
      → Step d e (takes x)
  by_duration : (κs : Lfts 0) (k : ℕ) (s : _) → set-freeze-duration.Learnt κs (d, (k, tt)) (Ok e) s → Step d e (resets k)
  by_refused_duration : (κs : Lfts 0) (k : ℕ) (r : DetectorError) (s : _) → set-freeze-duration.Learnt κs (d, (k, tt)) (Err r) s → e ≡ d → Step d e (resets k)
  by_recalibrate : (κs : Lfts 0) (x : Float) (s : _) → recalibrate.Learnt κs (d, (x, tt)) e s → Step d e (recalibrates x)

-- each call takes the detector that the one before it left
pub data Run : EwmaDetector → List Call → EwmaDetector → Type 0 where
  ended : (d : EwmaDetector) → Run d [] d
  then : (d e f : EwmaDetector) (c : Call) (cs : List Call) → Step d e c → Run e cs f → Run d (c ∷ cs) f

pub step_is : {d e : EwmaDetector} {c : Call} → Step d e c → e ≡ after d c
step_is (by_update κs x r s p h) = h ∙ ap (λ (u : Sampled). u.detector) p
step_is {d} (by_update_in_place κs x lent r s p was h) = h ∙ p.0 ∙ ap (λ (t : EwmaDetector). after t (takes x)) was
step_is {d} (by_duration κs k s p) = ap (or_as_it_was d) p
step_is {d} (by_refused_duration κs k r s p h) = h ∙ ap (or_as_it_was d) p
step_is (by_recalibrate κs x s p) = p

pub run_is : {d f : EwmaDetector} {cs : List Call} → Run d cs f → f ≡ ran d cs
run_is (ended d) = refl
run_is (then d e f c cs step run) = run_is run ∙ ap (λ (t : EwmaDetector). ran t cs) (step_is step)

-- ---- and there is one for any calls

answer_to : (d : EwmaDetector) (x : Float) → (r : Updated) × (updated_means r ≡ updated d x)
answer_to d x = go (which d x)
  where
    go : Which d x → (r : Updated) × (updated_means r ≡ updated d x)
    go (was_ignored f) = (record { detector = d; verdict = Ignored }, sym (not_finite_ignored d x f))
    go (was_first f n) = (record { detector = with_stats d x zero32 1; verdict = First }, sym (first_sample_lem d x f n))
    go (was_warming f n w) = (record { detector = folded d (distance d x); verdict = Warming }, sym (warming_folded d x f n w))
    go (was_past f p) =
        (record { detector = settled d (distance d x) (anomalous d x); verdict = Scored (score_of d (distance d x)) }, sym (past_scored d x p f))

steps : (d : EwmaDetector) (c : Call) → Step d (after d c) c
unfolding reset_of
steps d (takes x) = let r = answer_to d x in by_update tt x r.0 (d, (x, tt)) r.1 (sym (ap (λ (u : Sampled). u.detector) r.1))
steps d (recalibrates x) = by_recalibrate tt x (d, (x, tt)) refl
steps d (resets k) = go (eqb k 0) refl
  where
    go : (b : Bool) → eqb k 0 ≡ b → Step d (or_as_it_was d (reset_of d k)) (resets k)
    go true e = by_refused_duration tt k BadFreezeDuration (d, (k, tt)) (sym (cond-true _ _ _ e)) (ap (or_as_it_was d) (cond-true _ _ _ e))
    go false e = by_duration tt k (d, (k, tt)) (ap (λ (c : Configured). reset_means (Ok (or_as_it_was d c))) (cond-false _ _ _ e) ∙ sym (cond-false _ _ _ e))

pub runs : (cs : List Call) (d : EwmaDetector) → Run d cs (ran d cs)
runs [] d = ended d
runs (c ∷ cs) d = then d (after d c) (ran d (c ∷ cs)) c cs (steps d c) (runs cs (after d c))

-- ---- what every detector before its first sample has and every call keeps

module _ (P : EwmaDetector → Type 0) where
  -- what settings make, or the idle detector where they are refused
  pub settings_have : ((alpha threshold : Float) (freeze warmup : ℕ) → P (fresh alpha threshold freeze warmup))
      → (alpha threshold : Float) (freeze warmup : ℕ)
      → P (or_as_it_was ewma.idle (made_of alpha threshold freeze warmup))
  unfolding made_of
  settings_have new alpha threshold freeze warmup =
      cond_both (allowed alpha threshold) _ _ (λ c. P (or_as_it_was ewma.idle c)) (λ _. new alpha threshold freeze warmup) (λ _. new zero32 zero32 0 0)

  pub step_keeps : ((d : EwmaDetector) (c : Call) → P d → P (after d c)) → {d e : EwmaDetector} {c : Call} → Step d e c → P d → P e
  step_keeps keeps {d} {e} {c} step has = subst P (sym (step_is step)) (keeps d c has)

  module _ (new : (alpha threshold : Float) (freeze warmup : ℕ) → P (fresh alpha threshold freeze warmup)) (keeps : (d : EwmaDetector) (c : Call) → P d → P (after d c)) where
    configured_has : (alpha threshold : Float) (freeze warmup : ℕ) (d : EwmaDetector) → configured d ≡ made_of alpha threshold freeze warmup → P d
    configured_has alpha threshold freeze warmup d e =
        subst (λ (c : Configured). P (or_as_it_was ewma.idle c)) (sym e) (settings_have new alpha threshold freeze warmup)

    made-has : {d : EwmaDetector} → MadeBy d → P d
    made-has {d} (by_new κs alpha threshold s p) = configured_has alpha threshold 10 5 d p
    made-has {d} (by_with_options κs alpha threshold freeze warmup s p) = configured_has alpha threshold freeze warmup d p
    made-has (by_idle κs s p) = subst P (sym p) (new zero32 zero32 0 0)

    -- every detector that calls made has
    pub run-has : {d e : EwmaDetector} {cs : List Call} → MadeBy d → Run d cs e → P e
    run-has made run = go run (made-has made)
      where
        go : {d e : EwmaDetector} {cs : List Call} → Run d cs e → P d → P e
        go (ended d) has = has
        go (then d e f c cs step rest) has = go rest (step_keeps keeps step has)
