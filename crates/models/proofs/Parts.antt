-- The parts of each call's answer, one for each way out of it. Assumes nothing.
use mathlib.Core.Path.{◌≡◌, sym, ap, ap₂, ◌∙◌}
use mathlib.Core.Bool.{Bool, true, false, cond, ◌||◌}
use mathlib.Core.List.{List}
use Prim.Native.Nat.{ℕ, ◌+◌, ◌<◌}
use native.Mathlib.Nat.{min-eq_left}
use native.Mathlib.Omega.{arith}
use borrow.Author.Tests.{leb-false, eq-eqb, ne_eqb}
use lib.Dec.{leb}
use lib.ListN.{length, get_or, set}
use lib.Ieee.{Float, lt}
use Rattle.models.specs.declared.Grown.{Grown}
use Rattle.models.specs.declared.Seen.{Seen}
use Rattle.models.specs.declared.HistogramDetector.{HistogramDetector}
use Rattle.models.specs.declared.MarkovDetector.{MarkovDetector}
use Rattle.models.specs.Counts.{index_of, one_more, is_full, both_more, counted, cleared, ratio, scored, unscored}
use Rattle.models.specs.Histogram.{bins_fit, has_seen, marked, fresh, seeing, bin_ratio, anomalous, binned, new_bins, observed, reset_bins, probability_of, judged, unjudged, judged_of}
use Rattle.std.proofs.Math.Bool.{or-false}
use Rattle.std.proofs.lemmas.Bool.{or_parts}
use Rattle.models.specs.Markov.{states_fit, cell_of, fresh_states, moving, stated, new_states, moved, reset_states, score_of}

chosen : {A : Type 0} {b : Bool} (x y : A) → b ≡ true → cond b x y ≡ x
chosen x y e = ap (λ (t : Bool). cond t x y) e

other : {A : Type 0} {b : Bool} (x y : A) → b ≡ false → cond b x y ≡ y
other x y e = ap (λ (t : Bool). cond t x y) e

-- ---- one more of a count and its total, far from full

pub grows : (n : ℕ) → n < 0x8000_0000_0000_0000 → one_more n ≡ n + 1
grows n h = min-eq_left (omega arith)

pub far : (n : ℕ) → n < 0x8000_0000_0000_0000 → is_full (one_more n) ≡ false
far n h = let e = grows n h in ne_eqb (one_more n) 0xFFFF_FFFF_FFFF_FFFF (λ f. omega arith)

pub both_far : (a b : ℕ) (flag : Bool) → (leb 0x8000_0000_0000_0000 a || leb 0x8000_0000_0000_0000 b) ≡ false
    → ◌≡◌ {A = Grown} (record { count = a + 1; total = b + 1; saturated = flag }) (both_more a b flag)
both_far a b flag h =
    let (p, q) = or_parts (leb 0x8000_0000_0000_0000 a) (leb 0x8000_0000_0000_0000 b) h in
    let g = leb-false 0x8000_0000_0000_0000 a p in
    let k = leb-false 0x8000_0000_0000_0000 b q in
    let x = grows a g in
    let y = grows b k in
    let z : (flag || (is_full (one_more a) || is_full (one_more b))) ≡ flag = ap₂ (λ (s t : Bool). flag || (s || t)) (far a g) (far b k) ∙ or-false flag in
    λ i. record { count = sym x i; total = sym y i; saturated = sym z i }

-- ---- what is anomalous

module _ (m : HistogramDetector) (counts : List ℕ) (v : ℕ) (threshold : Float) where
  pub silent : m.saturated ≡ true → anomalous m counts v threshold ≡ false
  silent s = chosen _ _ s

  pub empty : m.saturated ≡ false → m.total ≡ 0 → anomalous m counts v threshold ≡ false
  empty s t = other _ _ s ∙ chosen _ _ (eq-eqb m.total 0 t)

  pub unseen : m.saturated ≡ false → (m.total ≡ 0 → ⊥) → has_seen m.seen v ≡ false → anomalous m counts v threshold ≡ true
  unseen s t h = other _ _ s ∙ other _ _ (ne_eqb m.total 0 t) ∙ other _ _ h

  pub by_ratio : m.saturated ≡ false → (m.total ≡ 0 → ⊥) → has_seen m.seen v ≡ true → anomalous m counts v threshold ≡ lt (bin_ratio m counts v) threshold
  by_ratio s t h = other _ _ s ∙ other _ _ (ne_eqb m.total 0 t) ∙ chosen _ _ h

-- ---- the histogram's calls

module _ (m : HistogramDetector) (counts : List ℕ) where
  pub observed_done : (v : ℕ) → bins_fit m.size (length counts) ≡ true → observed m counts v ≡ binned 0 (seeing m counts v) (counted counts (index_of m.size v))
  unfolding observed
  observed_done v h = chosen _ _ h

  pub observed_refused : (v : ℕ) → bins_fit m.size (length counts) ≡ false → observed m counts v ≡ binned 18 m counts
  unfolding observed
  observed_refused v h = other _ _ h

  pub reset_done : bins_fit m.size (length counts) ≡ true → reset_bins m counts ≡ binned 0 (fresh m.size) (cleared counts)
  unfolding reset_bins
  reset_done h = chosen _ _ h

  pub reset_refused : bins_fit m.size (length counts) ≡ false → reset_bins m counts ≡ binned 18 m counts
  unfolding reset_bins
  reset_refused h = other _ _ h

  pub probable : (v : ℕ) → bins_fit m.size (length counts) ≡ true → probability_of m counts v ≡ scored (bin_ratio m counts v)
  unfolding probability_of
  probable v h = chosen _ _ h

  pub improbable : (v : ℕ) → bins_fit m.size (length counts) ≡ false → probability_of m counts v ≡ unscored 18
  unfolding probability_of
  improbable v h = other _ _ h

  pub judged_so : (v : ℕ) (threshold : Float) → bins_fit m.size (length counts) ≡ true → judged_of m counts v threshold ≡ judged (anomalous m counts v threshold)
  unfolding judged_of
  judged_so v threshold h = chosen _ _ h

  pub judged_not : (v : ℕ) (threshold : Float) → bins_fit m.size (length counts) ≡ false → judged_of m counts v threshold ≡ unjudged 18
  unfolding judged_of
  judged_not v threshold h = other _ _ h

pub new_done : (size : ℕ) (counts : List ℕ) → bins_fit size (length counts) ≡ true → new_bins size counts ≡ binned 0 (fresh size) (cleared counts)
unfolding new_bins
new_done size counts h = chosen _ _ h

pub new_refused : (size : ℕ) (counts : List ℕ) → bins_fit size (length counts) ≡ false → new_bins size counts ≡ binned 18 (fresh size) counts
unfolding new_bins
new_refused size counts h = other _ _ h

-- an observation, by what each step of it answered
pub observed_is : (m : HistogramDetector) (counts : List ℕ) (v i : ℕ) (g : Grown) (s : Seen) → bins_fit m.size (length counts) ≡ true
    → i ≡ index_of m.size v → g ≡ both_more (get_or counts i 0) m.total m.saturated → s ≡ marked m.seen v
    → binned 0 (record { size = m.size; total = g.total; seen = s; saturated = g.saturated }) (set counts i g.count) ≡ observed m counts v
observed_is m counts v i g s fit hi hg hs =
    ap₂ (λ (x : Grown) (y : Seen). binned 0 (record { size = m.size; total = x.total; seen = y; saturated = x.saturated }) (set counts i x.count)) hg hs
    ∙ ap (λ (k : ℕ). let x = both_more (get_or counts k 0) m.total m.saturated in binned 0 (record { size = m.size; total = x.total; seen = marked m.seen v; saturated = x.saturated }) (set counts k x.count)) hi
    ∙ sym (observed_done m counts v fit)

-- ---- the Markov model's calls

pub same-stated : {n : ℕ} {m m' : MarkovDetector} {c c' r r' : List ℕ} → m ≡ m' → c ≡ c' → r ≡ r' → stated n m c r ≡ stated n m' c' r'
same-stated {n} e f g = λ i. stated n (e i) (f i) (g i)

module _ (m : MarkovDetector) (cells rows : List ℕ) where
  pub moved_done : (from to : ℕ) → states_fit m.size (length cells) (length rows) ≡ true
      → moved m cells rows from to ≡ stated 0 (moving m cells rows from to) (counted cells (cell_of m.size from to)) (counted rows (index_of m.size from))
  unfolding moved
  moved_done from to h = chosen _ _ h

  pub moved_refused : (from to : ℕ) → states_fit m.size (length cells) (length rows) ≡ false → moved m cells rows from to ≡ stated 18 m cells rows
  unfolding moved
  moved_refused from to h = other _ _ h

  pub states_reset : states_fit m.size (length cells) (length rows) ≡ true → reset_states m cells rows ≡ stated 0 (fresh_states m.size) (cleared cells) (cleared rows)
  unfolding reset_states
  states_reset h = chosen _ _ h

  pub states_kept : states_fit m.size (length cells) (length rows) ≡ false → reset_states m cells rows ≡ stated 18 m cells rows
  unfolding reset_states
  states_kept h = other _ _ h

  pub score_given : (from to : ℕ) → states_fit m.size (length cells) (length rows) ≡ true
      → score_of m cells rows from to ≡ scored (ratio (get_or cells (cell_of m.size from to) 0) (get_or rows (index_of m.size from) 0))
  unfolding score_of
  score_given from to h = chosen _ _ h

  pub score_refused : (from to : ℕ) → states_fit m.size (length cells) (length rows) ≡ false → score_of m cells rows from to ≡ unscored 18
  unfolding score_of
  score_refused from to h = other _ _ h

pub states_new : (size : ℕ) (cells rows : List ℕ) → states_fit size (length cells) (length rows) ≡ true → new_states size cells rows ≡ stated 0 (fresh_states size) (cleared cells) (cleared rows)
unfolding new_states
states_new size cells rows h = chosen _ _ h

pub states_not : (size : ℕ) (cells rows : List ℕ) → states_fit size (length cells) (length rows) ≡ false → new_states size cells rows ≡ stated 18 (fresh_states size) cells rows
unfolding new_states
states_not size cells rows h = other _ _ h

-- an observation, by what each step of it answered
pub moved_is : (m : MarkovDetector) (cells rows : List ℕ) (from to i j : ℕ) (g : Grown) → states_fit m.size (length cells) (length rows) ≡ true
    → i ≡ cell_of m.size from to → j ≡ index_of m.size from → g ≡ both_more (get_or cells i 0) (get_or rows j 0) m.saturated
    → stated 0 (record { size = m.size; saturated = g.saturated }) (set cells i g.count) (set rows j g.total) ≡ moved m cells rows from to
moved_is m cells rows from to i j g fit hi hj hg =
    ap (λ (x : Grown). stated 0 (record { size = m.size; saturated = x.saturated }) (set cells i x.count) (set rows j x.total)) hg
    ∙ ap₂ (λ (k l : ℕ). let x = both_more (get_or cells k 0) (get_or rows l 0) m.saturated in stated 0 (record { size = m.size; saturated = x.saturated }) (set cells k x.count) (set rows l x.total)) hi hj
    ∙ sym (moved_done m cells rows from to fit)
