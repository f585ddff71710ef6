-- Document 01's sentences on a sample, "The detector", and document 02's, T-06, on what a fold stores, each a theorem over `updated` or `folded`, for every
-- detector and not only for those that calls make.
-- Those that rest on the square root are in proofs/Root.antt. Assumes nothing.
use mathlib.Core.Path.{◌≡◌, refl, sym, ap, ◌∙◌, subst}
use mathlib.Core.Logic.{◌⊎◌, inl, inr}
use Prim.Native.Nat.{ℕ, ◌-◌, ◌<◌, ◌≤◌}
use native.Mathlib.Omega.{arith}
use mathlib.Core.Bool.{Bool, true, false, not, ◌||◌, cond}
use lib.Dec.{eqb, ltb}
use borrow.Author.Tests.{eq-eqb, ne_eqb, lt-ltb, le-ltb, eqb-true, eqb-false, ltb-true, ltb-false}
use lib.Ieee.{Float, lt}
use lib.Ieee.Scale.{finite}
use Rattle.detector.specs.declared.EwmaDetector.{EwmaDetector}
use Rattle.detector.specs.Answers.{ignored, first_sample, warming, scored, scored_as, configured, unconfigured}
use Rattle.detector.specs.Ewma.{Sampled, zero32, distance, new_mean, new_variance, kept_variance, one_more, rust_folded, folded, held, settled, score_of, updated, with_freeze, with_duration, with_stats, reset_of, recalibrated}
use Rattle.detector.specs.Calls.{or_as_it_was}
use Rattle.std.proofs.lemmas.Bool.{or_left, or_right, and_left, and_right, cond-true, cond-false, cond_both}
use Rattle.detector.proofs.Floats.{below_zero}

-- a detector with a sample and past its warm-up
pub record Past (d : EwmaDetector) : Type 0 where
  pub some_sample : 0 < d.count
  pub warm : d.warmup_count ≤ d.count

-- two detectors between which nothing was folded
pub record SameStats (d e : EwmaDetector) : Type 0 where
  pub mean : e.mean ≡ d.mean
  pub variance : e.variance ≡ d.variance
  pub count : e.count ≡ d.count

-- d in a freeze with n places left, which runs where n is not 0
abbrev pub in_freeze : EwmaDetector → ℕ → EwmaDetector
in_freeze d n = with_freeze d (not (eqb n 0)) n

abbrev pub anomalous : EwmaDetector → Float → Bool
anomalous d value = (score_of d (distance d value)).is_anomalous

-- ---- which of the four cases

-- "A non-finite sample changes nothing and has no score."
pub not_finite_ignored : (d : EwmaDetector) (value : Float) → finite value ≡ false → updated d value ≡ record { detector = d; said = ignored }
unfolding updated
not_finite_ignored d value f = cond-true _ _ _ (ap not f)

-- "The first sample sets the mean, variance 0, and has no score." The count is then 1.
pub first_sample_lem : (d : EwmaDetector) (value : Float) → finite value ≡ true → d.count ≡ 0
    → updated d value ≡ record { detector = with_stats d value zero32 1; said = first_sample }
unfolding updated
first_sample_lem d value f none = cond-false _ _ _ (ap not f) ∙ cond-true _ _ _ (eq-eqb d.count 0 none)

-- "While the count is below the warm-up, samples are folded and score 0."
pub warming_folded : (d : EwmaDetector) (value : Float) → finite value ≡ true → 0 < d.count → d.count < d.warmup_count
    → updated d value ≡ record { detector = folded d (distance d value); said = warming zero32 false }
unfolding updated
warming_folded d value f some cold =
    let nonzero : d.count ≡ 0 → ⊥ = λ e. omega arith in
    cond-false _ _ _ (ap not f) ∙ cond-false _ _ _ (ne_eqb d.count 0 nonzero) ∙ cond-true _ _ _ (lt-ltb d.count d.warmup_count cold)

-- "Otherwise the score is taken against the old mean and floored variance."
pub past_scored : (d : EwmaDetector) (value : Float) → Past d → finite value ≡ true
    → updated d value ≡ record { detector = settled d (distance d value) (anomalous d value); said = scored_as (score_of d (distance d value)) }
unfolding updated
past_scored d value p f =
    let nonzero : d.count ≡ 0 → ⊥ = λ e. let h = p.some_sample in omega arith in
    cond-false _ _ _ (ap not f) ∙ cond-false _ _ _ (ne_eqb d.count 0 nonzero) ∙ cond-false _ _ _ (le-ltb d.count d.warmup_count p.warm)

-- every sample is one of the four
pub data Which (d : EwmaDetector) (value : Float) : Type 0 where
  was_ignored : finite value ≡ false → Which d value
  was_first : finite value ≡ true → d.count ≡ 0 → Which d value
  was_warming : finite value ≡ true → 0 < d.count → d.count < d.warmup_count → Which d value
  was_past : finite value ≡ true → Past d → Which d value

pub which : (d : EwmaDetector) (value : Float) → Which d value
which d value = go (finite value) (eqb d.count 0) (ltb d.count d.warmup_count) refl refl refl
  where
    go : (a b c : Bool) → finite value ≡ a → eqb d.count 0 ≡ b → ltb d.count d.warmup_count ≡ c → Which d value
    go false b c f n w = was_ignored f
    go true true c f n w = was_first f (eqb-true d.count 0 n)
    go true false true f n w = was_warming f (omega (arith, eqb-false d.count 0 n)) (ltb-true d.count d.warmup_count w)
    go true false false f n w = was_past f (record { some_sample = omega (arith, eqb-false d.count 0 n); warm = ltb-false d.count d.warmup_count w })

-- and nothing else is scored
pub record WasScored (d : EwmaDetector) (value z : Float) (flag : Bool) : Type 0 where
  pub sample : finite value ≡ true
  pub past : Past d
  pub score : z ≡ (score_of d (distance d value)).z_score
  pub flagged : flag ≡ anomalous d value

pub was_scored : (d : EwmaDetector) (value z : Float) (flag : Bool) → (updated d value).said ≡ scored z flag → WasScored d value z flag
was_scored d value z flag e = go (which d value)
  where
    said : {u : Sampled} → updated d value ≡ u → u.said ≡ scored z flag
    said h = sym (ap (λ (u : Sampled). u.said) h) ∙ e

    go : Which d value → WasScored d value z flag
    go (was_ignored f) = let h = said (not_finite_ignored d value f) in absurd cc
    go (was_first f n) = let h = said (first_sample_lem d value f n) in absurd cc
    go (was_warming f n w) = let h = said (warming_folded d value f n w) in absurd cc
    go (was_past f p) = let h = said (past_scored d value p f) in record { sample = f; past = p; score = cc; flagged = cc }

-- ---- anomalies and the freeze

held_same : (d : EwmaDetector) → SameStats d (held d)
unfolding held
held_same d = record { mean = refl; variance = refl; count = refl }

anomalous-held : (d : EwmaDetector) (diff : Float) (a : Bool) → a ≡ true → settled d diff a ≡ held d
unfolding settled
anomalous-held d diff a e = cond-true _ _ _ (or_right d.frozen a e)

frozen_held : (d : EwmaDetector) (diff : Float) (a : Bool) → d.frozen ≡ true → settled d diff a ≡ held d
unfolding settled
frozen_held d diff a f = cond-true _ _ _ (or_left d.frozen a f)

-- a sample that was scored anomalous uses a place of a freeze
anomaly-held : (d : EwmaDetector) (value z : Float) → (updated d value).said ≡ scored z true → (updated d value).detector ≡ held d
anomaly-held d value z e =
    let w = was_scored d value z true e in
    ap (λ (u : Sampled). u.detector) (past_scored d value w.past w.sample) ∙ anomalous-held d (distance d value) (anomalous d value) (sym w.flagged)

-- "An anomalous sample is never folded."
pub anomalous_not_folded : (d : EwmaDetector) (value z : Float) → (updated d value).said ≡ scored z true → SameStats d (updated d value).detector
anomalous_not_folded d value z e = subst (SameStats d) (sym (anomaly-held d value z e)) (held_same d)

-- "It starts a freeze if none runs, and itself uses the first place of it."
pub anomaly_starts_freeze : (d : EwmaDetector) (value z : Float) → (updated d value).said ≡ scored z true → d.frozen ≡ false
    → (updated d value).detector ≡ in_freeze d (d.freeze_duration - 1)
unfolding held
anomaly_starts_freeze d value z e f = anomaly-held d value z e ∙ ap (λ (b : Bool). in_freeze d (cond b d.freeze_remaining d.freeze_duration - 1)) f

-- "While a freeze runs no sample is folded .. and each is scored": the sample uses one place, and nothing else changes.
pub frozen_uses_place : (d : EwmaDetector) (value : Float) → Past d → finite value ≡ true → d.frozen ≡ true
    → updated d value ≡ record { detector = in_freeze d (d.freeze_remaining - 1); said = scored_as (score_of d (distance d value)) }
unfolding held
frozen_uses_place d value p f r =
    past_scored d value p f
    ∙ ap (λ (e : EwmaDetector). record { detector = e; said = scored_as (score_of d (distance d value)) })
    (frozen_held d (distance d value) (anomalous d value) r ∙ ap (λ (b : Bool). in_freeze d (cond b d.freeze_remaining d.freeze_duration - 1)) r)

pub frozen_not_folded : (d : EwmaDetector) (value : Float) → Past d → finite value ≡ true → d.frozen ≡ true → SameStats d (updated d value).detector
frozen_not_folded d value p f r =
    subst (SameStats d) (sym (ap (λ (u : Sampled). u.detector) (frozen_uses_place d value p f r))) (record { mean = refl; variance = refl; count = refl })

-- ".. its last place included": nothing is folded there either, and no freeze runs after it.
pub last_place_not_folded : (d : EwmaDetector) (value : Float) → Past d → finite value ≡ true → d.frozen ≡ true → d.freeze_remaining ≡ 1
    → (updated d value).detector ≡ with_freeze d false 0
last_place_not_folded d value p f r one =
    ap (λ (u : Sampled). u.detector) (frozen_uses_place d value p f r) ∙ ap (λ (n : ℕ). in_freeze d (n - 1)) one

-- ---- "Freeze 0 acts like 1."

same_choice : {A B : Type 0} (f : A → B) (b : Bool) {x y : A} {x' y' : B} → f x ≡ x' → f y ≡ y' → f (cond b x y) ≡ cond b x' y'
same_choice f true p q = p
same_choice f false p q = q

no_place : (b : Bool) (n : ℕ) → cond b n 0 - 1 ≡ cond b n 1 - 1
no_place true n = refl
no_place false n = refl

-- the same with the freeze duration made 1
abbrev pub at_one : EwmaDetector → EwmaDetector
at_one d = with_duration d 1

abbrev pub sampled_at_one : Sampled → Sampled
sampled_at_one u = record { detector = at_one u.detector; said = u.said }

held_alike : (d : EwmaDetector) → at_one (held (with_duration d 0)) ≡ held (with_duration d 1)
unfolding held
held_alike d = ap (λ (n : ℕ). with_freeze (with_duration d 1) (not (eqb n 0)) n) (no_place d.frozen d.freeze_remaining)

folded_alike : (d : EwmaDetector) (diff : Float) → at_one (folded (with_duration d 0) diff) ≡ folded (with_duration d 1) diff
unfolding folded
folded_alike d diff = same_choice at_one (finite (new_mean d diff)) refl refl

settled_alike : (d : EwmaDetector) (diff : Float) (a : Bool) → at_one (settled (with_duration d 0) diff a) ≡ settled (with_duration d 1) diff a
unfolding settled
settled_alike d diff a = same_choice at_one (d.frozen || a) (held_alike d) (folded_alike d diff)

-- with durations 0 and 1 every sample is the same to the detector, which is the same after it but for the duration itself
pub zero_like_one : (d : EwmaDetector) (value : Float) → sampled_at_one (updated (with_duration d 0) value) ≡ updated (with_duration d 1) value
unfolding updated score_of
zero_like_one d value =
    let diff = distance d value in
    same_choice sampled_at_one (not (finite value)) refl
    (same_choice sampled_at_one (eqb d.count 0) refl
    (same_choice sampled_at_one (ltb d.count d.warmup_count)
    (ap (λ (e : EwmaDetector). record { detector = e; said = warming zero32 false }) (folded_alike d diff))
    (ap (λ (e : EwmaDetector). record { detector = e; said = scored_as (score_of (with_duration d 1) diff) }) (settled_alike d diff (anomalous (with_duration d 1) value)))))

-- ---- what a fold stores

-- T-06: "A new mean that isn't finite is not to be stored; mean and variance then stay, and the count still rises."
pub bad_mean_not_stored : (d : EwmaDetector) (diff : Float) → finite (new_mean d diff) ≡ false → folded d diff ≡ with_stats d d.mean d.variance (one_more d.count)
unfolding folded
bad_mean_not_stored d diff f = cond-false _ _ _ f

-- and any other is, as in the Rust
pub good_mean_stored : (d : EwmaDetector) (diff : Float) → finite (new_mean d diff) ≡ true → folded d diff ≡ rust_folded d diff
unfolding folded
good_mean_stored d diff f = cond-true _ _ _ f

-- so what holds of both holds of a fold
pub either_fold : (P : EwmaDetector → Type 0) (d : EwmaDetector) (diff : Float)
    → P (rust_folded d diff)
    → P (with_stats d d.mean d.variance (one_more d.count))
    → P (folded d diff)
unfolding folded
either_fold P d diff stored left = cond_both (finite (new_mean d diff)) _ _ P (λ _. stored) (λ _. left)

-- "A new variance that isn't finite or is below 0 isn't stored."
pub bad_variance_not_stored : (d : EwmaDetector) (diff : Float) → (finite (new_variance d diff) ≡ false) ⊎ (lt (new_variance d diff) zero32 ≡ true)
    → (folded d diff).variance ≡ d.variance
bad_variance_not_stored d diff bad = either_fold (λ e. e.variance ≡ d.variance) d diff (kept bad) refl
  where
    kept : (finite (new_variance d diff) ≡ false) ⊎ (lt (new_variance d diff) zero32 ≡ true) → kept_variance d (new_variance d diff) ≡ d.variance
    kept (inl f) = cond-false _ _ _ (and_left _ _ f)
    kept (inr l) = cond-false _ _ _ (and_right _ _ (below_zero (new_variance d diff) l))

-- ---- the other calls

-- "`recalibrate` to a finite number sets the mean, clears variance and freeze and keeps the count"
pub recalibrated_finite : (d : EwmaDetector) (baseline : Float) → finite baseline ≡ true
    → recalibrated d baseline ≡ with_freeze (with_stats d baseline zero32 d.count) false 0
unfolding recalibrated
recalibrated_finite d baseline f = cond-true _ _ _ f

-- "a non-finite number changes nothing"
pub recalibrated_not_finite : (d : EwmaDetector) (baseline : Float) → finite baseline ≡ false → recalibrated d baseline ≡ d
unfolding recalibrated
recalibrated_not_finite d baseline f = cond-false _ _ _ f

-- so what holds of both holds after `recalibrate`, and likewise after `set_freeze_duration`, a refusal included
pub either_recalibrated : (P : EwmaDetector → Type 0) (d : EwmaDetector) (baseline : Float)
    → (finite baseline ≡ true → P (with_freeze (with_stats d baseline zero32 d.count) false 0))
    → P d
    → P (recalibrated d baseline)
unfolding recalibrated
either_recalibrated P d baseline set left = cond_both (finite baseline) _ _ P set (λ _. left)

pub either_reset : (P : EwmaDetector → Type 0) (d : EwmaDetector) (duration : ℕ) → P (with_duration d duration) → P d → P (or_as_it_was d (reset_of d duration))
unfolding reset_of
either_reset P d duration set left = cond_both (eqb duration 0) _ _ (λ c. P (or_as_it_was d c)) (λ _. left) (λ _. set)

-- "so on an empty detector the next sample overwrites it"
pub recalibrated_empty_overwritten : (d : EwmaDetector) (baseline value : Float) → finite value ≡ true → d.count ≡ 0
    → (updated (recalibrated d baseline) value).detector.mean ≡ value
recalibrated_empty_overwritten d baseline value f none =
    ap (λ (u : Sampled). u.detector.mean)
    (first_sample_lem (recalibrated d baseline) value f (either_recalibrated (λ t. t.count ≡ 0) d baseline (λ _. none) none))

-- "`set_freeze_duration` doesn't alter a running freeze."
pub duration_keeps_freeze : (d e : EwmaDetector) (duration : ℕ) → reset_of d duration ≡ configured e
    → (e.frozen ≡ d.frozen) × (e.freeze_remaining ≡ d.freeze_remaining)
unfolding reset_of
duration_keeps_freeze d e duration h = go (eqb duration 0) h
  where
    go : (b : Bool) → cond b (unconfigured 8) (configured (with_duration d duration)) ≡ configured e → (e.frozen ≡ d.frozen) × (e.freeze_remaining ≡ d.freeze_remaining)
    go true h = absurd cc
    go false h =
        let same : with_duration d duration ≡ e = cc in
        (ap (λ (t : EwmaDetector). t.frozen) (sym same), ap (λ (t : EwmaDetector). t.freeze_remaining) (sym same))
