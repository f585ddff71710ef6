-- Refusal 18: `..-refuses`: given where the size or a lent length does not fit; `..-keeps`: only there, and then the model and the counts are what they were.
-- Of the reading calls `..-refused` and `..-unfit` say the two. Assumes nothing.
use mathlib.Core.Path.{◌≡◌, refl, sym, ap, ◌∙◌}
use mathlib.Core.Bool.{Bool, true, false}
use mathlib.Core.List.{List}
use Prim.Native.Nat.{ℕ}
use native.Mathlib.Omega.{arith}
use lib.ListN.{length}
use lib.Ieee.{Float}
use contract.Lifetimes.{Lfts}
use denote.MutBor.{MutBor}
use denote.Ref.{Bor}
use Rattle.models.specs.declared.HistogramDetector.{HistogramDetector}
use Rattle.models.specs.declared.MarkovDetector.{MarkovDetector}
use Rattle.std.specs.Prelude.{Result, Err}
use Rattle.models.specs.declared.Changed.{Changed}
use Rattle.models.specs.declared.Misfit.{Misfit}
use Rattle.models.specs.Counts.{misfit, index_of, counted, cleared, answer_means, Scored, scored, unscored, probability_means}
use Rattle.models.specs.Histogram.{bins_fit, fresh, seeing, Binned, binned, histogram_means, new_bins, observed, reset_bins, Judged, judged, unjudged, judgement_means}
use Rattle.models.specs.Markov.{states_fit, cell_of, fresh_states, moving, Stated, stated, markov_means, new_states, moved, reset_states}
use Rattle.models.proofs.Determined.{answer_settled, probability_settled, judgement_settled}
use Rattle.models.proofs.Parts.{observed_done, observed_refused, reset_done, reset_refused, new_done, new_refused, moved_done, moved_refused, states_reset, states_kept, states_new, states_not, probable, improbable, judged_so, judged_not, score_given, score_refused}
use Rattle.models.proofs.HistogramDetector.new.Reads as new
use Rattle.models.proofs.HistogramDetector.observe.Reads as observe
use Rattle.models.proofs.HistogramDetector.reset.Reads as reset
use Rattle.models.proofs.HistogramDetector.probability.Reads as asked
use Rattle.models.proofs.HistogramDetector.is_anomalous.Reads as is-anomalous
use Rattle.models.proofs.MarkovDetector.new.Reads as states
use Rattle.models.proofs.MarkovDetector.observe_transition.Reads as observe-transition
use Rattle.models.proofs.MarkovDetector.reset.Reads as restated
use Rattle.models.proofs.MarkovDetector.score_transition.Reads as score-transition

not_18 : {A : Type 0} → ◌≡◌ {A = ℕ} 18 0 → A
not_18 e = absurd (omega arith)

-- ---- histograms

-- where a call that changes a model was refused, its tests failed, and it left the model m and the counts d
pub record Kept (b : Bool) (r : Changed HistogramDetector) (c : List ℕ) (m : HistogramDetector) (d : List ℕ) : Type 0 where
  pub unfit : b ≡ false
  pub model_kept : r.model ≡ m
  pub counts_kept : c ≡ d

kept : (b : Bool) (r : Changed HistogramDetector) (c : List ℕ) (x : Binned) (m n : HistogramDetector) (d e : List ℕ) → (b ≡ true → x ≡ binned 0 n e) → (b ≡ false → x ≡ binned 18 m d)
    → histogram_means r c ≡ x → r.answer ≡ Err misfit → Kept b r c m d
kept true r c x m n d e done not p h = not_18 (sym (ap answer_means h) ∙ ap (λ (z : Binned). z.number) (p ∙ done refl))
kept false r c x m n d e done not p h =
    let q = p ∙ not refl in
    record { unfit = refl; model_kept = ap (λ (z : Binned). z.model) q; counts_kept = ap (λ (z : Binned). z.counts) q }

pub observe_keeps : (κs : Lfts 1) (m : HistogramDetector) (lent : MutBor (List ℕ)) (v : ℕ) (r : Changed HistogramDetector) (s : _) → observe.Learnt κs (m, (lent, (v, tt))) r s
    → r.answer ≡ Err misfit → Kept (bins_fit m.size (length lent.now)) r s.1.0.now m lent.now
observe_keeps κs m lent v r s p h =
    kept (bins_fit m.size (length lent.now)) r s.1.0.now (observed m lent.now v) m (seeing m lent.now v) lent.now (counted lent.now (index_of m.size v))
    (observed_done m lent.now v) (observed_refused m lent.now v) p h

pub reset_keeps : (κs : Lfts 1) (m : HistogramDetector) (lent : MutBor (List ℕ)) (r : Changed HistogramDetector) (s : _) → reset.Learnt κs (m, (lent, tt)) r s
    → r.answer ≡ Err misfit → Kept (bins_fit m.size (length lent.now)) r s.1.0.now m lent.now
reset_keeps κs m lent r s p h =
    kept (bins_fit m.size (length lent.now)) r s.1.0.now (reset_bins m lent.now) m (fresh m.size) lent.now (cleared lent.now)
    (reset_done m lent.now) (reset_refused m lent.now) p h

-- a model that is not made is the empty one of the size asked for, which the same counts do not fit either
pub new_keeps : (κs : Lfts 1) (size : ℕ) (lent : MutBor (List ℕ)) (r : Changed HistogramDetector) (s : _) → new.Learnt κs (size, (lent, tt)) r s
    → r.answer ≡ Err misfit → Kept (bins_fit size (length lent.now)) r s.1.0.now (fresh size) lent.now
new_keeps κs size lent r s p h =
    kept (bins_fit size (length lent.now)) r s.1.0.now (new_bins size lent.now) (fresh size) (fresh size) lent.now (cleared lent.now)
    (new_done size lent.now) (new_refused size lent.now) p h

-- and a call whose tests fail is refused
refuses : (r : Changed HistogramDetector) (c : List ℕ) (x : Binned) (m : HistogramDetector) (d : List ℕ) → x ≡ binned 18 m d → histogram_means r c ≡ x → r.answer ≡ Err misfit
refuses r c x m d e p = answer_settled r.answer (Err misfit) (ap (λ (z : Binned). z.number) (p ∙ e))

pub observe_refuses : (κs : Lfts 1) (m : HistogramDetector) (lent : MutBor (List ℕ)) (v : ℕ) (r : Changed HistogramDetector) (s : _) → observe.Learnt κs (m, (lent, (v, tt))) r s
    → bins_fit m.size (length lent.now) ≡ false → r.answer ≡ Err misfit
observe_refuses κs m lent v r s p h = refuses r s.1.0.now (observed m lent.now v) m lent.now (observed_refused m lent.now v h) p

pub reset_refuses : (κs : Lfts 1) (m : HistogramDetector) (lent : MutBor (List ℕ)) (r : Changed HistogramDetector) (s : _) → reset.Learnt κs (m, (lent, tt)) r s
    → bins_fit m.size (length lent.now) ≡ false → r.answer ≡ Err misfit
reset_refuses κs m lent r s p h = refuses r s.1.0.now (reset_bins m lent.now) m lent.now (reset_refused m lent.now h) p

pub new_refuses : (κs : Lfts 1) (size : ℕ) (lent : MutBor (List ℕ)) (r : Changed HistogramDetector) (s : _) → new.Learnt κs (size, (lent, tt)) r s
    → bins_fit size (length lent.now) ≡ false → r.answer ≡ Err misfit
new_refuses κs size lent r s p h = refuses r s.1.0.now (new_bins size lent.now) (fresh size) lent.now (new_refused size lent.now h) p

-- ---- Markov models

pub record BothKept (b : Bool) (r : Changed MarkovDetector) (c t : List ℕ) (m : MarkovDetector) (d u : List ℕ) : Type 0 where
  pub unfit : b ≡ false
  pub model_kept : r.model ≡ m
  pub cells_kept : c ≡ d
  pub rows_kept : t ≡ u

both_kept : (b : Bool) (r : Changed MarkovDetector) (c t : List ℕ) (x y : Stated) (m : MarkovDetector) (d u : List ℕ) → y.number ≡ 0 → (b ≡ true → x ≡ y) → (b ≡ false → x ≡ stated 18 m d u)
    → markov_means r c t ≡ x → r.answer ≡ Err misfit → BothKept b r c t m d u
both_kept true r c t x y m d u zero done not p h = not_18 (sym (ap answer_means h) ∙ ap (λ (z : Stated). z.number) (p ∙ done refl) ∙ zero)
both_kept false r c t x y m d u zero done not p h =
    let q = p ∙ not refl in
    record { unfit = refl; model_kept = ap (λ (z : Stated). z.model) q; cells_kept = ap (λ (z : Stated). z.cells) q; rows_kept = ap (λ (z : Stated). z.rows) q }

pub observe_transition_keeps : (κs : Lfts 2) (m : MarkovDetector) (cells rows : MutBor (List ℕ)) (from to : ℕ) (r : Changed MarkovDetector) (s : _)
    → observe-transition.Learnt κs (m, (cells, (rows, (from, (to, tt))))) r s → r.answer ≡ Err misfit
    → BothKept (states_fit m.size (length cells.now) (length rows.now)) r s.1.0.now s.1.1.0.now m cells.now rows.now
observe_transition_keeps κs m cells rows from to r s p h =
    both_kept (states_fit m.size (length cells.now) (length rows.now)) r s.1.0.now s.1.1.0.now (moved m cells.now rows.now from to)
    (stated 0 (moving m cells.now rows.now from to) (counted cells.now (cell_of m.size from to)) (counted rows.now (index_of m.size from))) m cells.now rows.now refl
    (moved_done m cells.now rows.now from to) (moved_refused m cells.now rows.now from to) p h

pub states_reset_keeps : (κs : Lfts 2) (m : MarkovDetector) (cells rows : MutBor (List ℕ)) (r : Changed MarkovDetector) (s : _) → restated.Learnt κs (m, (cells, (rows, tt))) r s
    → r.answer ≡ Err misfit → BothKept (states_fit m.size (length cells.now) (length rows.now)) r s.1.0.now s.1.1.0.now m cells.now rows.now
states_reset_keeps κs m cells rows r s p h =
    both_kept (states_fit m.size (length cells.now) (length rows.now)) r s.1.0.now s.1.1.0.now (reset_states m cells.now rows.now)
    (stated 0 (fresh_states m.size) (cleared cells.now) (cleared rows.now)) m cells.now rows.now refl
    (states_reset m cells.now rows.now) (states_kept m cells.now rows.now) p h

pub states_new_keeps : (κs : Lfts 2) (size : ℕ) (cells rows : MutBor (List ℕ)) (r : Changed MarkovDetector) (s : _) → states.Learnt κs (size, (cells, (rows, tt))) r s
    → r.answer ≡ Err misfit → BothKept (states_fit size (length cells.now) (length rows.now)) r s.1.0.now s.1.1.0.now (fresh_states size) cells.now rows.now
states_new_keeps κs size cells rows r s p h =
    both_kept (states_fit size (length cells.now) (length rows.now)) r s.1.0.now s.1.1.0.now (new_states size cells.now rows.now)
    (stated 0 (fresh_states size) (cleared cells.now) (cleared rows.now)) (fresh_states size) cells.now rows.now refl
    (states_new size cells.now rows.now) (states_not size cells.now rows.now) p h

both_refuse : (r : Changed MarkovDetector) (c t : List ℕ) (x : Stated) (m : MarkovDetector) (d u : List ℕ) → x ≡ stated 18 m d u → markov_means r c t ≡ x → r.answer ≡ Err misfit
both_refuse r c t x m d u e p = answer_settled r.answer (Err misfit) (ap (λ (z : Stated). z.number) (p ∙ e))

pub observe_transition_refuses : (κs : Lfts 2) (m : MarkovDetector) (cells rows : MutBor (List ℕ)) (from to : ℕ) (r : Changed MarkovDetector) (s : _)
    → observe-transition.Learnt κs (m, (cells, (rows, (from, (to, tt))))) r s → states_fit m.size (length cells.now) (length rows.now) ≡ false → r.answer ≡ Err misfit
observe_transition_refuses κs m cells rows from to r s p h =
    both_refuse r s.1.0.now s.1.1.0.now (moved m cells.now rows.now from to) m cells.now rows.now (moved_refused m cells.now rows.now from to h) p

pub states_reset_refuses : (κs : Lfts 2) (m : MarkovDetector) (cells rows : MutBor (List ℕ)) (r : Changed MarkovDetector) (s : _) → restated.Learnt κs (m, (cells, (rows, tt))) r s
    → states_fit m.size (length cells.now) (length rows.now) ≡ false → r.answer ≡ Err misfit
states_reset_refuses κs m cells rows r s p h =
    both_refuse r s.1.0.now s.1.1.0.now (reset_states m cells.now rows.now) m cells.now rows.now (states_kept m cells.now rows.now h) p

pub states_new_refuses : (κs : Lfts 2) (size : ℕ) (cells rows : MutBor (List ℕ)) (r : Changed MarkovDetector) (s : _) → states.Learnt κs (size, (cells, (rows, tt))) r s
    → states_fit size (length cells.now) (length rows.now) ≡ false → r.answer ≡ Err misfit
states_new_refuses κs size cells rows r s p h =
    both_refuse r s.1.0.now s.1.1.0.now (new_states size cells.now rows.now) (fresh_states size) cells.now rows.now (states_not size cells.now rows.now h) p

-- ---- the reading calls

pub probability_refused : (κs : Lfts 1) (m : HistogramDetector) (lent : Bor (List ℕ)) (v : ℕ) (r : Result Float Misfit) (s : _) → asked.Learnt κs (m, (lent, (v, tt))) r s
    → bins_fit m.size (length lent.now) ≡ false → r ≡ Err misfit
probability_refused κs m lent v r s p h = probability_settled r (Err misfit) (p ∙ improbable m lent.now v h)

pub is_anomalous_refused : (κs : Lfts 1) (m : HistogramDetector) (lent : Bor (List ℕ)) (v : ℕ) (threshold : Float) (r : Result Bool Misfit) (s : _)
    → is-anomalous.Learnt κs (m, (lent, (v, (threshold, tt)))) r s → bins_fit m.size (length lent.now) ≡ false → r ≡ Err misfit
is_anomalous_refused κs m lent v threshold r s p h = judgement_settled r (Err misfit) (p ∙ judged_not m lent.now v threshold h)

pub score_transition_refused : (κs : Lfts 2) (m : MarkovDetector) (cells rows : Bor (List ℕ)) (from to : ℕ) (r : Result Float Misfit) (s : _)
    → score-transition.Learnt κs (m, (cells, (rows, (from, (to, tt))))) r s → states_fit m.size (length cells.now) (length rows.now) ≡ false → r ≡ Err misfit
score_transition_refused κs m cells rows from to r s p h = probability_settled r (Err misfit) (p ∙ score_refused m cells.now rows.now from to h)

-- a number for each answer: 18 where it is refused
abbrev score_number : Scored → ℕ
score_number (scored p) = 0
score_number (unscored n) = n

abbrev judged_number : Judged → ℕ
judged_number (judged flag) = 0
judged_number (unjudged n) = n

pub probability_unfit : (κs : Lfts 1) (m : HistogramDetector) (lent : Bor (List ℕ)) (v : ℕ) (r : Result Float Misfit) (s : _) → asked.Learnt κs (m, (lent, (v, tt))) r s
    → r ≡ Err misfit → bins_fit m.size (length lent.now) ≡ false
probability_unfit κs m lent v r s p h = go (bins_fit m.size (length lent.now)) refl
  where
    go : (b : Bool) → bins_fit m.size (length lent.now) ≡ b → b ≡ false
    go true e = not_18 (ap score_number (sym (ap probability_means h) ∙ p ∙ probable m lent.now v e))
    go false e = refl

pub is_anomalous_unfit : (κs : Lfts 1) (m : HistogramDetector) (lent : Bor (List ℕ)) (v : ℕ) (threshold : Float) (r : Result Bool Misfit) (s : _)
    → is-anomalous.Learnt κs (m, (lent, (v, (threshold, tt)))) r s → r ≡ Err misfit → bins_fit m.size (length lent.now) ≡ false
is_anomalous_unfit κs m lent v threshold r s p h = go (bins_fit m.size (length lent.now)) refl
  where
    go : (b : Bool) → bins_fit m.size (length lent.now) ≡ b → b ≡ false
    go true e = not_18 (ap judged_number (sym (ap judgement_means h) ∙ p ∙ judged_so m lent.now v threshold e))
    go false e = refl

pub score_transition_unfit : (κs : Lfts 2) (m : MarkovDetector) (cells rows : Bor (List ℕ)) (from to : ℕ) (r : Result Float Misfit) (s : _)
    → score-transition.Learnt κs (m, (cells, (rows, (from, (to, tt))))) r s → r ≡ Err misfit → states_fit m.size (length cells.now) (length rows.now) ≡ false
score_transition_unfit κs m cells rows from to r s p h = go (states_fit m.size (length cells.now) (length rows.now)) refl
  where
    go : (b : Bool) → states_fit m.size (length cells.now) (length rows.now) ≡ b → b ≡ false
    go true e = not_18 (ap score_number (sym (ap probability_means h) ∙ p ∙ score_given m cells.now rows.now from to e))
    go false e = refl
