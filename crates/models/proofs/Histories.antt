-- Histograms that calls made and nothing else altered. All that is known of a call is its promise (`Learnt`). Assumes nothing.
-- `total_counts`, `not_saturated`: how many observations there were, and that fewer than 2^64 - 1 do not saturate.
-- `exact_map`: the bytes that were seen are those observed since the model was made or reset. `unseen_anomalous`, `nan_flags_no_seen`, `saturated_silent`:
-- what `is_anomalous` then answers. `adds_up`: without saturation the counts add up to the total. `probability_between`: between 0 and 1, saturated or not.
use mathlib.Core.Path.{◌≡◌, refl, sym, ap, ap₂, ◌∙◌, subst}
use mathlib.Core.Bool.{Bool, true, false, cond, ◌||◌}
use mathlib.Core.List.{List, [], ◌∷◌}
use Prim.Native.Nat.{ℕ, suc, ◌^◌, ◌≤◌, ◌<◌, min, zero-le}
use native.Mathlib.Nat.{le_trans, le_of_eq, lt_of_lt_of_le, mod-lt}
use native.Mathlib.Decide.{ℕ_discrete}
use native.Mathlib.Omega.{arith}
use borrow.Author.Tests.{eqb-true, eqb-false, ne_eqb}
use lib.Dec.{eqb, lit<}
use lib.ListN.{length, get_or, length-set, length-replicate}
use lib.Seq.{get_or-set_same, get_or-set_other}
use lib.Ieee.{Float, nan, inf, fin, lt}
use contract.Lifetimes.{Lfts}
use denote.MutBor.{MutBor}
use denote.Ref.{Bor}
use Rattle.models.specs.declared.HistogramDetector.{HistogramDetector}
use Rattle.std.specs.Prelude.{Result, Ok}
use Rattle.models.specs.declared.Changed.{Changed}
use Rattle.models.specs.declared.Misfit.{Misfit}
use Rattle.models.specs.Counts.{index_of, one_more, is_full, counted, cleared, sum_from, IsPart, answer_means}
use Rattle.models.specs.Histogram.{bins_fit, has_seen, fresh, seeing, bin_ratio, anomalous, Binned, binned, histogram_means, observed, reset_bins, probability_of, Judged, judged, unjudged, judgement_means, judged_of}
use Rattle.std.proofs.lemmas.Bool.{or_parts}
use Rattle.models.proofs.Fits.{Bins, bins}
use Rattle.models.proofs.Counting.{sum-set, sum-cleared, get_d_cleared, not_full, one_more_mono, one_more_most, stays}
use Rattle.models.proofs.Marks.{marked_seen, none_marked}
use Rattle.models.proofs.Parts.{new_done, new_refused, observed_done, observed_refused, reset_done, judged_so, judged_not, probable, silent, empty, unseen, by_ratio}
use Rattle.models.proofs.Between.{ratio_between}
use Rattle.models.proofs.Determined.{judgement_settled, probability_settled}
use Rattle.models.proofs.HistogramDetector.new.Reads as new
use Rattle.models.proofs.HistogramDetector.observe.Reads as observe
use Rattle.models.proofs.HistogramDetector.probability.Reads as probability
use Rattle.models.proofs.HistogramDetector.is_anomalous.Reads as is-anomalous
use Rattle.models.proofs.HistogramDetector.reset.Reads as reset

-- whether a byte is among those observed
abbrev pub among : ℕ → List ℕ → Bool
among v [] = false
among v (b ∷ bytes) = eqb v b || among v bytes

-- Calls made the model m and left these counts, each lent what the one before it left; these bytes were observed since it was made or last reset, the last one
-- first. A refused call leaves the model and its counts (Refusals), so it has no place here.
pub data MadeBy : HistogramDetector → List ℕ → List ℕ → Type 0 where
  by_new : (κs : Lfts 1) (size : ℕ) (lent : MutBor (List ℕ)) (r : Changed HistogramDetector) (s : _) → new.Learnt κs (size, (lent, tt)) r s → r.answer ≡ Ok tt
      → MadeBy r.model s.1.0.now []
  by_observe : {m : HistogramDetector} {counts bytes : List ℕ} → MadeBy m counts bytes
      → (κs : Lfts 1) (lent : MutBor (List ℕ)) (v : ℕ) (r : Changed HistogramDetector) (s : _) → lent.now ≡ counts → v < 256 → observe.Learnt κs (m, (lent, (v, tt))) r s
      → MadeBy r.model s.1.0.now (v ∷ bytes)
  by_reset : {m : HistogramDetector} {counts bytes : List ℕ} → MadeBy m counts bytes
      → (κs : Lfts 1) (lent : MutBor (List ℕ)) (r : Changed HistogramDetector) (s : _) → lent.now ≡ counts → reset.Learnt κs (m, (lent, tt)) r s
      → MadeBy r.model s.1.0.now []

-- what holds of every such model
pub record Sound (m : HistogramDetector) (counts bytes : List ℕ) : Type 0 where
  pub fits : bins_fit m.size (length counts) ≡ true
  pub map : (v : ℕ) → has_seen m.seen v ≡ among v bytes
  pub many : m.total ≡ min (length bytes) 0xFFFF_FFFF_FFFF_FFFF
  pub flag : m.saturated ≡ is_full m.total
  pub most : m.total < 2 ^ 64
  pub below : (i : ℕ) → get_or counts i 0 ≤ m.total
  pub sums : m.saturated ≡ false → sum_from counts 0 m.size ≡ m.total

-- ---- nothing observed

begins : (size : ℕ) (counts : List ℕ) → bins_fit size (length counts) ≡ true → Sound (fresh size) (cleared counts) []
begins size counts h =
    record {
      fits = ap (bins_fit size) (length-replicate (length counts) 0) ∙ h;
      map = none_marked;
      many = refl;
      flag = refl;
      most = lit< tt;
      below = λ i. le_of_eq (get_d_cleared (length counts) i);
      sums = λ _. sum-cleared (length counts) 0 size;
    }

-- ---- one observation

module _ (m : HistogramDetector) (counts bytes : List ℕ) (v : ℕ) (s : Sound m counts bytes) (byte : v < 256) where
  i : ℕ
  i = index_of m.size v

  f : Bins m.size (length counts)
  f = bins m.size (length counts) s.fits

  inside : i < length counts
  unfolding i
  inside = lt_of_lt_of_le (mod-lt v f.some) (le_of_eq (sym f.exact))

  goes_on : Sound (seeing m counts v) (counted counts i) (v ∷ bytes)
  unfolding i
  goes_on =
      record {
        fits = ap (bins_fit m.size) (length-set counts i _) ∙ s.fits;
        map = λ w. marked_seen m.seen v w byte ∙ ap (λ (t : Bool). eqb w v || t) (s.map w);
        many = ap one_more s.many ∙ next (length bytes);
        flag = flagged m.saturated bin all refl refl refl;
        most = one_more_most m.total;
        below = λ j. at j (ℕ_discrete j i);
        sums = λ e. let (clear, both) = or_parts m.saturated (bin || all) e in let (a, b) = or_parts bin all both in added clear a b;
      }
    where
      bin : Bool
      bin = is_full (one_more (get_or counts i 0))

      all : Bool
      all = is_full (one_more m.total)

      next : (n : ℕ) → one_more (min n 0xFFFF_FFFF_FFFF_FFFF) ≡ min (suc n) 0xFFFF_FFFF_FFFF_FFFF
      next n = omega arith

      or_true : (a b : Bool) → (a || (b || true)) ≡ true
      or_true true b = refl
      or_true false true = refl
      or_true false false = refl

      top : (c t : ℕ) → c ≡ 0xFFFF_FFFF_FFFF_FFFF → c ≤ t → t < 2 ^ 64 → t ≡ 0xFFFF_FFFF_FFFF_FFFF
      top c t e l h = omega arith

      full_stays : (n : ℕ) → n ≡ 0xFFFF_FFFF_FFFF_FFFF → one_more n ≡ 0xFFFF_FFFF_FFFF_FFFF
      full_stays n e = omega arith

      -- the flag is set exactly where the total is full: a bin that is full has a total that is, and a full total stays
      flagged : (a b c : Bool) → m.saturated ≡ a → bin ≡ b → all ≡ c → (m.saturated || (bin || all)) ≡ all
      flagged a b true e f g = ap₂ (λ (x y : Bool). x || (bin || y)) e g ∙ or_true a bin ∙ sym g
      flagged a true false e f g = absurd (eqb-false (one_more m.total) 0xFFFF_FFFF_FFFF_FFFF g (top (one_more (get_or counts i 0)) (one_more m.total) (eqb-true (one_more (get_or counts i 0)) 0xFFFF_FFFF_FFFF_FFFF f) (one_more_mono (get_or counts i 0) m.total (s.below i)) (one_more_most m.total)))
      flagged true false false e f g = absurd (eqb-false (one_more m.total) 0xFFFF_FFFF_FFFF_FFFF g (full_stays m.total (eqb-true m.total 0xFFFF_FFFF_FFFF_FFFF (sym s.flag ∙ e))))
      flagged false false false e f g = ap₂ (λ (x y : Bool). x || (y || all)) e f

      at : (j : ℕ) → Dec (j ≡ i) → get_or (counted counts i) j 0 ≤ one_more m.total
      at j (yes e) =
          le_trans (le_of_eq (ap (λ (k : ℕ). get_or (counted counts i) k 0) e ∙ get_or-set_same counts i _ 0 inside)) (one_more_mono (get_or counts i 0) m.total (s.below i))
      at j (no n) = le_trans (le_of_eq (get_or-set_other counts i j _ 0 n)) (le_trans (s.below j) (stays m.total s.most))

      added : m.saturated ≡ false → is_full (one_more (get_or counts i 0)) ≡ false → is_full (one_more m.total) ≡ false
          → sum_from (counted counts i) 0 m.size ≡ one_more m.total
      added e a b =
          let was = s.sums e in
          let one = not_full (get_or counts i 0) a in
          let all = not_full m.total b in
          let set = sum-set counts i (one_more (get_or counts i 0)) 0 m.size inside zero-le (omega (arith, mod-lt v f.some)) in
          omega arith

-- what a call that was promised so leaves
left : (r : Changed HistogramDetector) (c : List ℕ) (n : ℕ) (m : HistogramDetector) (d bytes : List ℕ) → histogram_means r c ≡ binned n m d → Sound m d bytes → Sound r.model c bytes
left r c n m d bytes h s = subst (λ (b : Binned). Sound b.model b.counts bytes) (sym h) s

pub sound : {m : HistogramDetector} {counts bytes : List ℕ} → MadeBy m counts bytes → Sound m counts bytes
unfolding i
sound (by_new κs size lent r s p d) = go (bins_fit size (length lent.now)) refl
  where
    go : (b : Bool) → bins_fit size (length lent.now) ≡ b → Sound r.model s.1.0.now []
    go true e = left r s.1.0.now 0 (fresh size) (cleared lent.now) [] (p ∙ new_done size lent.now e) (begins size lent.now e)
    go false e =
        let z : ◌≡◌ {A = ℕ} 0 18 = sym (ap answer_means d) ∙ ap (λ (b : Binned). b.number) (p ∙ new_refused size lent.now e) in
        absurd (omega arith)
sound (by_observe {m} {counts} {bytes} made κs lent v r s same byte p) =
    let was = sound made in
    left r s.1.0.now 0 (seeing m counts v) (counted counts (index_of m.size v)) (v ∷ bytes) (p ∙ ap (λ (l : List ℕ). observed m l v) same ∙ observed_done m counts v was.fits) (goes_on m counts bytes v was byte)
sound (by_reset {m} {counts} {bytes} made κs lent r s same p) =
    let was = sound made in
    left r s.1.0.now 0 (fresh m.size) (cleared counts) [] (p ∙ ap (reset_bins m) same ∙ reset_done m counts was.fits) (begins m.size counts was.fits)

-- ---- the theorems

-- its own counts fit a model that calls made, so that no call with them is refused
pub always_fits : {m : HistogramDetector} {counts bytes : List ℕ} → MadeBy m counts bytes → bins_fit m.size (length counts) ≡ true
always_fits made = (sound made).fits

-- the map is exact
pub exact_map : {m : HistogramDetector} {counts bytes : List ℕ} → MadeBy m counts bytes → (v : ℕ) → has_seen m.seen v ≡ among v bytes
exact_map made = (sound made).map

-- the total is the number of bytes observed, up to 2^64 - 1, and the model is saturated exactly if it is that; so with fewer observations it is not
pub total_counts : {m : HistogramDetector} {counts bytes : List ℕ} → MadeBy m counts bytes → (m.total ≡ min (length bytes) 0xFFFF_FFFF_FFFF_FFFF) × (m.saturated ≡ is_full m.total)
total_counts made = ((sound made).many, (sound made).flag)

pub not_saturated : {m : HistogramDetector} {counts bytes : List ℕ} → MadeBy m counts bytes → length bytes < 0xFFFF_FFFF_FFFF_FFFF → m.saturated ≡ false
not_saturated {m} {counts} {bytes} made few = (sound made).flag ∙ ne_eqb m.total 0xFFFF_FFFF_FFFF_FFFF (λ e. less (length bytes) few (sym (sound made).many ∙ e))
  where
    less : (n : ℕ) → n < 0xFFFF_FFFF_FFFF_FFFF → min n 0xFFFF_FFFF_FFFF_FFFF ≡ 0xFFFF_FFFF_FFFF_FFFF → ⊥
    less n h e = omega arith

-- without saturation the counts add up to the total
pub adds_up : {m : HistogramDetector} {counts bytes : List ℕ} → MadeBy m counts bytes → m.saturated ≡ false → sum_from counts 0 m.size ≡ m.total
adds_up made = (sound made).sums

-- ---- what `is_anomalous` answers

-- what a promise tells where the counts fit
told_so : (m : HistogramDetector) (counts : List ℕ) (v : ℕ) (threshold : Float) (r : Result Bool Misfit) (b : Bool) → bins_fit m.size (length counts) ≡ true
    → anomalous m counts v threshold ≡ b → judgement_means r ≡ judged_of m counts v threshold → judgement_means r ≡ judged b
told_so m counts v threshold r b fit is p = p ∙ judged_so m counts v threshold fit ∙ ap judged is

-- A byte that was never observed since the model was made or reset is anomalous as soon as anything was and while the model is not saturated, whatever shares
-- its bin and whatever the threshold.
pub unseen_anomalous : {m : HistogramDetector} {counts bytes : List ℕ} {b : ℕ} → MadeBy m counts (b ∷ bytes) → m.saturated ≡ false
    → (κs : Lfts 1) (lent : Bor (List ℕ)) (v : ℕ) (threshold : Float) (r : Result Bool Misfit) (s : _) → lent.now ≡ counts → among v (b ∷ bytes) ≡ false
    → is-anomalous.Learnt κs (m, (lent, (v, (threshold, tt)))) r s → r ≡ Ok true
unseen_anomalous {m} {counts} {bytes} {b} made clear κs lent v threshold r s same never p =
    let is = sound made in
    judgement_settled r (Ok true) (told_so m counts v threshold r true is.fits (unseen m counts v threshold clear (λ e. not_empty (length bytes) (sym is.many ∙ e)) (is.map v ∙ never))
    (p ∙ ap (λ (l : List ℕ). judged_of m l v threshold) same))
  where
    not_empty : (n : ℕ) → min (suc n) 0xFFFF_FFFF_FFFF_FFFF ≡ 0 → ⊥
    not_empty n e = omega arith

below_no_nan : (x : Float) → lt x nan ≡ false
unfolding lt
below_no_nan nan = refl
below_no_nan (inf s) = refl
below_no_nan (fin s m e) = refl

-- a number for each answer
abbrev number : Judged → ℕ
number (judged flag) = cond flag 1 0
number (unjudged n) = 2

-- what is not anomalous is not flagged
flags_none : (m : HistogramDetector) (counts : List ℕ) (v : ℕ) (threshold : Float) (r : Result Bool Misfit) → anomalous m counts v threshold ≡ false
    → judgement_means r ≡ judged_of m counts v threshold → r ≡ Ok true → ⊥
flags_none m counts v threshold r is p flagged = go (bins_fit m.size (length counts)) refl
  where
    go : (b : Bool) → bins_fit m.size (length counts) ≡ b → ⊥
    go true e =
        let z : ◌≡◌ {A = ℕ} 1 0 = ap number (sym (ap judgement_means flagged) ∙ told_so m counts v threshold r false e is p) in
        absurd (omega arith)
    go false e =
        let z : ◌≡◌ {A = ℕ} 1 2 = ap number (sym (ap judgement_means flagged) ∙ p ∙ judged_not m counts v threshold e) in
        absurd (omega arith)

-- A NaN as threshold flags no byte that was seen: for every model, whoever made it, with every count.
pub nan_flags_no_seen : (κs : Lfts 1) (m : HistogramDetector) (lent : Bor (List ℕ)) (v : ℕ) (r : Result Bool Misfit) (s : _) → has_seen m.seen v ≡ true
    → is-anomalous.Learnt κs (m, (lent, (v, (nan, tt)))) r s → r ≡ Ok true → ⊥
nan_flags_no_seen κs m lent v r s seen p flagged = flags_none m lent.now v nan r (quiet m.saturated refl (ℕ_discrete m.total 0)) p flagged
  where
    quiet : (b : Bool) → m.saturated ≡ b → Dec (m.total ≡ 0) → anomalous m lent.now v nan ≡ false
    quiet true e d = silent m lent.now v nan e
    quiet false e (yes z) = empty m lent.now v nan e z
    quiet false e (no n) = by_ratio m lent.now v nan e n seen ∙ below_no_nan (bin_ratio m lent.now v)

-- A saturated model raises nothing, whatever the threshold.
pub saturated_silent : (κs : Lfts 1) (m : HistogramDetector) (lent : Bor (List ℕ)) (v : ℕ) (threshold : Float) (r : Result Bool Misfit) (s : _) → m.saturated ≡ true
    → is-anomalous.Learnt κs (m, (lent, (v, (threshold, tt)))) r s → r ≡ Ok true → ⊥
saturated_silent κs m lent v threshold r s full p flagged = flags_none m lent.now v threshold r (silent m lent.now v threshold full) p flagged

-- And observations leave it saturated: only a reset ends that.
pub saturated_stays : (κs : Lfts 1) (m : HistogramDetector) (lent : MutBor (List ℕ)) (v : ℕ) (r : Changed HistogramDetector) (s : _) → m.saturated ≡ true
    → observe.Learnt κs (m, (lent, (v, tt))) r s → r.model.saturated ≡ true
saturated_stays κs m lent v r s full p = go (bins_fit m.size (length lent.now)) refl
  where
    go : (b : Bool) → bins_fit m.size (length lent.now) ≡ b → r.model.saturated ≡ true
    go true e = ap (λ (b : Binned). b.model.saturated) (p ∙ observed_done m lent.now v e) ∙ ap (λ (t : Bool). t || (is_full (one_more (get_or lent.now (index_of m.size v) 0)) || is_full (one_more m.total))) full
    go false e = ap (λ (b : Binned). b.model.saturated) (p ∙ observed_refused m lent.now v e) ∙ full

-- Observations one after the other, each with whatever counts were lent to it.
pub data Observing : HistogramDetector → HistogramDetector → Type 0 where
  ended : (m : HistogramDetector) → Observing m m
  then : {m z : HistogramDetector} (κs : Lfts 1) (lent : MutBor (List ℕ)) (v : ℕ) (r : Changed HistogramDetector) (s : _) → observe.Learnt κs (m, (lent, (v, tt))) r s
      → Observing r.model z → Observing m z

still_saturated : {m z : HistogramDetector} → Observing m z → m.saturated ≡ true → z.saturated ≡ true
still_saturated (ended m) full = full
still_saturated (then {m} κs lent v r s p rest) full = still_saturated rest (saturated_stays κs m lent v r s full p)

-- So once a model is saturated no byte is anomalous, whatever is observed, until it is reset.
pub silent_until_reset : {m z : HistogramDetector} → Observing m z → m.saturated ≡ true
    → (κs : Lfts 1) (lent : Bor (List ℕ)) (v : ℕ) (threshold : Float) (r : Result Bool Misfit) (s : _) → is-anomalous.Learnt κs (z, (lent, (v, (threshold, tt)))) r s → r ≡ Ok true → ⊥
silent_until_reset {m} {z} run full κs lent v threshold r s p = saturated_silent κs z lent v threshold r s (still_saturated run full) p

-- ---- what `probability` answers: between 0 and 1

pub probability_between : {m : HistogramDetector} {counts bytes : List ℕ} → MadeBy m counts bytes
    → (κs : Lfts 1) (lent : Bor (List ℕ)) (v : ℕ) (r : Result Float Misfit) (s : _) → lent.now ≡ counts → probability.Learnt κs (m, (lent, (v, tt))) r s
    → (x : Float) × (r ≡ Ok x) × IsPart x
probability_between {m} {counts} made κs lent v r s same p =
    let is = sound made in
    let i = index_of m.size v in (
      bin_ratio m counts v,
      probability_settled r (Ok (bin_ratio m counts v)) (p ∙ ap (λ (l : List ℕ). probability_of m l v) same ∙ probable m counts v is.fits),
      ratio_between (get_or counts i 0) m.total (is.below i) is.most,
    )

-- ---- and such models there are: of every size, over any counts of that number, after any bytes

lend : List ℕ → MutBor (List ℕ)
lend l = record { ref_ptr = (0, 0); ghost_name = 0; now = l }

abbrev pub AllBytes : List ℕ → Type 0
AllBytes [] = Unit {0}
AllBytes (b ∷ bytes) = (b < 256) × AllBytes bytes

pub there_are : (size : ℕ) (counts : List ℕ) → bins_fit size (length counts) ≡ true → (bytes : List ℕ) → AllBytes bytes
    → (m : HistogramDetector) × ((c : List ℕ) × (MadeBy m c bytes × (m.size ≡ size)))
unfolding lend
there_are size counts h [] all =
    (fresh size, (cleared counts, (by_new ([], tt) size (lend counts) (record { answer = Ok tt; model = fresh size }) (size, (lend (cleared counts), tt)) (sym (new_done size counts h)) refl, refl)))
there_are size counts h (b ∷ bytes) all =
    let (m, (c, (made, same))) = there_are size counts h bytes all.1 in
    (seeing m c b, (counted c (index_of m.size b), (by_observe made ([], tt) (lend c) b (record { answer = Ok tt; model = seeing m c b }) (m, (lend (counted c (index_of m.size b)), (b, tt))) refl all.0 (sym (observed_done m c b (sound made).fits)), same)))
