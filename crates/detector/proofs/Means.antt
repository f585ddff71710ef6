-- Document 02, T-06, "A mean that cannot go bad": the mean of every detector that calls made is finite, a lent detector whose mean was finite keeps a finite
-- one, and a step is the Rust's exactly as far as the request lets it be. Assumes nothing.
use mathlib.Core.Path.{◌≡◌, refl, sym, ap, ◌∙◌, subst}
use mathlib.Core.List.{List, [], ◌∷◌}
use mathlib.Core.Bool.{Bool, true, false, not, ◌||◌, cond}
use Prim.Native.Nat.{ℕ, ◌<◌}
use native.Mathlib.Omega.{arith}
use lib.Dec.{eqb, ltb}
use lib.Ieee.{Float}
use lib.Ieee.Scale.{finite}
use contract.Lifetimes.{Lfts}
use denote.MutBor.{MutBor}
use Rattle.detector.specs.declared.EwmaDetector.{EwmaDetector}
use Rattle.detector.specs.declared.Updated.{Updated}
use Rattle.detector.specs.declared.Verdict.{Verdict}
use Rattle.detector.specs.Answers.{Heard, ignored, first_sample, warming, scored_as, verdict_means}
use Rattle.detector.specs.Ewma.{Sampled, updated_means, zero32, with_stats, new_mean, one_more, rust_folded, folded, held, settled, distance, score_of, updated, fresh, idle, made_of}
use Rattle.detector.specs.Calls.{Call, takes, resets, recalibrates, or_as_it_was, after, ran}
use Rattle.detector.specs.Rust.{rust_settled, rust_updated, rust_after, rust_ran, amended}
use Rattle.std.proofs.lemmas.Bool.{or_from, cond-true, cond-false, cond_both}
use Rattle.detector.proofs.Finite.{zero_finite}
use Rattle.detector.proofs.Floats.{bad_plus}
use Rattle.detector.proofs.Samples.{Past, Which, was_ignored, was_first, was_warming, was_past, which, not_finite_ignored, first_sample_lem, warming_folded, past_scored, anomalous, bad_mean_not_stored, either_recalibrated, either_reset}
use Rattle.detector.proofs.update_in_place.Reads as update-in-place
use Rattle.detector.proofs.Runs.{MadeBy, Step, Run, run_is, settings_have, step_keeps, run-has}
use Rattle.detector.proofs.EwmaDetector.update.Reads as update

-- ---- the request's own sentence, of what `update` returns

-- a sample is folded in warm-up, and past it where no freeze runs and it is not anomalous
pub data Folds (d : EwmaDetector) (x : Float) : Type 0 where
  in_warm_up : 0 < d.count → d.count < d.warmup_count → Folds d x
  past_it : Past d → d.frozen ≡ false → anomalous d x ≡ false → Folds d x

folds_is : (d : EwmaDetector) (x : Float) → finite x ≡ true → Folds d x → (updated d x).detector ≡ folded d (distance d x)
unfolding settled
folds_is d x f (in_warm_up some cold) = ap (λ (u : Sampled). u.detector) (warming_folded d x f some cold)
folds_is d x f (past_it p still calm) = ap (λ (u : Sampled). u.detector) (past_scored d x p f) ∙ cond-false _ _ _ (or_from _ _ still calm)

-- "A new mean that isn't finite is not to be stored; mean and variance then stay, and the count still rises."
pub update_leaves_bad_mean : (κs : Lfts 0) (d : EwmaDetector) (x : Float) (r : Updated) (s : _)
    → update.Learnt κs (d, (x, tt)) r s
    → finite x ≡ true
    → Folds d x
    → finite (new_mean d (distance d x)) ≡ false
    → r.detector ≡ with_stats d d.mean d.variance (one_more d.count)
update_leaves_bad_mean κs d x r s p f folds bad =
    ap (λ (u : Sampled). u.detector) p ∙ folds_is d x f folds ∙ bad_mean_not_stored d (distance d x) bad

-- ---- every call keeps a finite mean

abbrev pub FiniteMean : EwmaDetector → Type 0
FiniteMean d = finite d.mean ≡ true

folded_finite : (d : EwmaDetector) (diff : Float) → FiniteMean d → FiniteMean (folded d diff)
unfolding folded
folded_finite d diff m = cond_both (finite (new_mean d diff)) _ _ FiniteMean (λ f. f) (λ _. m)

settled_finite : (d : EwmaDetector) (diff : Float) (flag : Bool) → FiniteMean d → FiniteMean (settled d diff flag)
unfolding settled held
settled_finite d diff flag m = cond_both (d.frozen || flag) _ _ FiniteMean (λ _. m) (λ _. folded_finite d diff m)

updated_finite : (d : EwmaDetector) (x : Float) → FiniteMean d → FiniteMean (updated d x).detector
updated_finite d x m = go (which d x)
  where
    from : {u : Sampled} → updated d x ≡ u → FiniteMean u.detector → FiniteMean (updated d x).detector
    from e t = subst (λ (u : Sampled). FiniteMean u.detector) (sym e) t

    go : Which d x → FiniteMean (updated d x).detector
    go (was_ignored f) = from (not_finite_ignored d x f) m
    go (was_first f n) = from (first_sample_lem d x f n) f
    go (was_warming f n w) = from (warming_folded d x f n w) (folded_finite d (distance d x) m)
    go (was_past f p) = from (past_scored d x p f) (settled_finite d (distance d x) (anomalous d x) m)

pub after_finite : (d : EwmaDetector) (c : Call) → FiniteMean d → FiniteMean (after d c)
after_finite d (takes x) m = updated_finite d x m
after_finite d (resets k) m = either_reset FiniteMean d k m m
after_finite d (recalibrates x) m = either_recalibrated FiniteMean d x (λ f. f) m

-- "a lent detector whose mean was finite keeps a finite one": by each compiled call, whoever made the detector
pub step_keeps_finite : {d e : EwmaDetector} {c : Call} → Step d e c → FiniteMean d → FiniteMean e
step_keeps_finite = step_keeps FiniteMean after_finite

-- and in its own words of `update_in_place`
pub lent_keeps_finite : (κs : Lfts 1) (lent : MutBor EwmaDetector) (x : Float) (r : Verdict) (s : _)
    → update-in-place.Learnt κs (lent, (x, tt)) r s
    → FiniteMean lent.now
    → FiniteMean s.0.now
lent_keeps_finite κs lent x r s p m = subst FiniteMean (sym p.0) (updated_finite lent.now x m)

-- ---- so it is finite in every detector that calls made

fresh_finite : (alpha threshold : Float) (freeze warmup : ℕ) → FiniteMean (fresh alpha threshold freeze warmup)
fresh_finite alpha threshold freeze warmup = zero_finite

-- what settings make, or the idle detector where they are refused
pub settings_finite : (alpha threshold : Float) (freeze warmup : ℕ) → FiniteMean (or_as_it_was idle (made_of alpha threshold freeze warmup))
settings_finite = settings_have FiniteMean fresh_finite

-- "the mean of every detector that our calls made and nothing else altered is finite after any calls"
pub run_finite : {d e : EwmaDetector} {cs : List Call} → MadeBy d → Run d cs e → FiniteMean e
run_finite made run = run-has FiniteMean fresh_finite after_finite made run

-- ---- a mean that was not finite, which only a lent detector can bring, stays what it was, and so does the variance; a first sample sets both

pub record StatsStay (d e : EwmaDetector) : Type 0 where
  pub mean : e.mean ≡ d.mean
  pub variance : e.variance ≡ d.variance

bad_mean_fold : (d : EwmaDetector) (diff : Float) → finite d.mean ≡ false → StatsStay d (folded d diff)
bad_mean_fold d diff f = subst (StatsStay d) (sym (bad_mean_not_stored d diff (bad_plus d.mean _ f))) (record { mean = refl; variance = refl })

pub bad_mean_stays : (d : EwmaDetector) (x : Float) → 0 < d.count → finite d.mean ≡ false → StatsStay d (updated d x).detector
unfolding settled held
bad_mean_stays d x some f = go (which d x)
  where
    from : {u : Sampled} → updated d x ≡ u → StatsStay d u.detector → StatsStay d (updated d x).detector
    from e t = subst (λ (u : Sampled). StatsStay d u.detector) (sym e) t

    go : Which d x → StatsStay d (updated d x).detector
    go (was_ignored g) = from (not_finite_ignored d x g) (record { mean = refl; variance = refl })
    go (was_first g n) = absurd (omega arith)
    go (was_warming g n w) = from (warming_folded d x g n w) (bad_mean_fold d (distance d x) f)
    go (was_past g p) = from (past_scored d x p g) (cond_both (d.frozen || anomalous d x) _ _ (StatsStay d) (λ _. record { mean = refl; variance = refl }) (λ _. bad_mean_fold d (distance d x) f))

-- ---- a step is the Rust's step, amended where that leaves a mean that is not finite

abbrev as_said : Heard → EwmaDetector → Sampled
as_said h e = record { detector = e; said = h }

-- a detector with d's own mean and variance is the same amended or not
unmoved : (d e : EwmaDetector) (h : Heard) → with_stats e d.mean d.variance e.count ≡ e → as_said h e ≡ amended d (as_said h e)
unmoved d e h same = go (finite e.mean)
  where
    go : (b : Bool) → as_said h e ≡ cond b (as_said h e) (as_said h (with_stats e d.mean d.variance e.count))
    go true = refl
    go false = ap (as_said h) (sym same)

folded-amended : (d : EwmaDetector) (diff : Float) (h : Heard) → as_said h (folded d diff) ≡ amended d (as_said h (rust_folded d diff))
unfolding folded
folded-amended d diff h = go (finite (new_mean d diff))
  where
    go : (b : Bool) → as_said h (cond b (rust_folded d diff) (with_stats d d.mean d.variance (rust_folded d diff).count))
        ≡ cond b (as_said h (rust_folded d diff)) (as_said h (with_stats (rust_folded d diff) d.mean d.variance (rust_folded d diff).count))
    go true = refl
    go false = refl

settled-amended : (d : EwmaDetector) (diff : Float) (flag : Bool) (h : Heard) → as_said h (settled d diff flag) ≡ amended d (as_said h (rust_settled d diff flag))
unfolding settled rust_settled held
settled-amended d diff flag h = go (d.frozen || flag)
  where
    go : (b : Bool) → as_said h (cond b (held d) (folded d diff)) ≡ amended d (as_said h (cond b (held d) (rust_folded d diff)))
    go true = unmoved d (held d) h refl
    go false = folded-amended d diff h

-- So a comparison may take the Rust's own step and put mean and variance back, and is then held to the definition.
pub as_amended : (d : EwmaDetector) (x : Float) → updated d x ≡ amended d (rust_updated d x)
unfolding updated rust_updated
as_amended d x = go (finite x) (eqb d.count 0) (ltb d.count d.warmup_count) refl
  where
    diff : Float
    diff = distance d x

    go : (a b c : Bool) → finite x ≡ a
        → cond (not a) (as_said ignored d)
        (cond b (as_said first_sample (with_stats d x zero32 1))
        (cond c (as_said (warming zero32 false) (folded d diff)) (as_said (scored_as (score_of d diff)) (settled d diff (anomalous d x)))))
        ≡ amended d
        (cond (not a) (as_said ignored d)
        (cond b (as_said first_sample (with_stats d x zero32 1))
        (cond c (as_said (warming zero32 false) (rust_folded d diff)) (as_said (scored_as (score_of d diff)) (rust_settled d diff (anomalous d x))))))
    go false b c f = unmoved d d ignored refl
    go true true c f = sym (cond-true _ _ _ f)
    go true false true f = folded-amended d diff (warming zero32 false)
    go true false false f = settled-amended d diff (anomalous d x) (scored_as (score_of d diff))

-- "where the Rust's new mean is finite, the step is the Rust's, bit for bit": detector, score and flag, of every detector and every sample
pub good_step_is_rust : (d : EwmaDetector) (x : Float) → finite (rust_updated d x).detector.mean ≡ true → updated d x ≡ rust_updated d x
good_step_is_rust d x f = as_amended d x ∙ cond-true _ _ _ f

-- and of what the compiled `update` answers
pub update_is_rust : (κs : Lfts 0) (d : EwmaDetector) (x : Float) (r : Updated) (s : _)
    → update.Learnt κs (d, (x, tt)) r s
    → finite (rust_updated d x).detector.mean ≡ true
    → updated_means r ≡ rust_updated d x
update_is_rust κs d x r s p f = p ∙ good_step_is_rust d x f

-- and of `update_in_place`, the lent detector and the verdict
pub lent_is_rust : (κs : Lfts 1) (lent : MutBor EwmaDetector) (x : Float) (r : Verdict) (s : _)
    → update-in-place.Learnt κs (lent, (x, tt)) r s
    → finite (rust_updated lent.now x).detector.mean ≡ true
    → (s.0.now ≡ (rust_updated lent.now x).detector) × (verdict_means r ≡ (rust_updated lent.now x).said)
lent_is_rust κs lent x r s p f =
    let e = good_step_is_rust lent.now x f in
    (p.0 ∙ ap (λ (u : Sampled). u.detector) e, p.1 ∙ ap (λ (u : Sampled). u.said) e)

-- where it is not, the answer is still the Rust's, and so is all of the detector but its mean and variance
pub bad_step_is_amended : (d : EwmaDetector) (x : Float) → finite (rust_updated d x).detector.mean ≡ false
    → updated d x ≡ as_said (rust_updated d x).said (with_stats (rust_updated d x).detector d.mean d.variance (rust_updated d x).detector.count)
bad_step_is_amended d x f = as_amended d x ∙ cond-false _ _ _ f

-- ---- any calls, as long as each leaves the Rust a finite mean

abbrev pub RustMeansFinite : EwmaDetector → List Call → Type 0
RustMeansFinite d [] = Unit {0}
RustMeansFinite d (c ∷ cs) = FiniteMean (rust_after d c) × RustMeansFinite (rust_after d c) cs

after_is_rust : (d : EwmaDetector) (c : Call) → FiniteMean (rust_after d c) → after d c ≡ rust_after d c
after_is_rust d (takes x) f = ap (λ (u : Sampled). u.detector) (good_step_is_rust d x f)
after_is_rust d (resets k) f = refl
after_is_rust d (recalibrates x) f = refl

ran_is_rust : (cs : List Call) (d : EwmaDetector) → RustMeansFinite d cs → ran d cs ≡ rust_ran d cs
ran_is_rust [] d all = refl
ran_is_rust (c ∷ cs) d all = ap (λ (t : EwmaDetector). ran t cs) (after_is_rust d c all.0) ∙ ran_is_rust cs (rust_after d c) all.1

pub run_is_rust : {d e : EwmaDetector} {cs : List Call} → Run d cs e → RustMeansFinite d cs → e ≡ rust_ran d cs
run_is_rust {d} {e} {cs} run all = run_is run ∙ ran_is_rust cs d all
