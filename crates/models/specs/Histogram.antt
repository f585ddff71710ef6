-- Document 02, T-04: `HistogramDetector`, as source document 001 has it. m is a model, counts are its lent counts, one for each bin.
-- Assumes nothing.
use Rattle.std.specs.Prelude.{Bool, true, false, ◌&&◌, ◌||◌, cond, List, [], ◌∷◌, ℕ, ◌+◌, ◌/◌, ◌%◌, ◌^◌, eqb, length, get_or, set, Float, Result, Ok, Err}
use Rattle.std.specs.Float.Ieee.{lt}
use Rattle.models.specs.declared.Seen.{Seen}
use Rattle.models.specs.declared.HistogramDetector.{HistogramDetector}
use Rattle.models.specs.declared.Changed.{Changed}
use Rattle.models.specs.declared.Misfit.{Misfit}
use Rattle.models.specs.Counts.{sized, index_of, one_more, is_full, counted, cleared, ratio, answer_means, Scored, scored, unscored}

-- 1 to 256 bins, and lent counts of exactly that number.
unfoldable pub bins_fit : ℕ → ℕ → Bool
bins_fit size counts = sized size 256 && eqb counts size

-- ---- the exact map of the bytes that were seen, 256 bits in four words: bit v % 64 of word v / 64 is the byte v

abbrev pub words : Seen → List ℕ
words s = s.from_0 ∷ s.from_64 ∷ s.from_128 ∷ s.from_192 ∷ []

abbrev pub map_of : List ℕ → Seen
map_of l = record { from_0 = get_or l 0 0; from_64 = get_or l 1 0; from_128 = get_or l 2 0; from_192 = get_or l 3 0 }

abbrev pub none_seen : Seen
none_seen = record { from_0 = 0; from_64 = 0; from_128 = 0; from_192 = 0 }

abbrev pub word_of : Seen → ℕ → ℕ
word_of s v = get_or (words s) (v / 64) 0

abbrev pub has_seen : Seen → ℕ → Bool
has_seen s v = eqb (word_of s v / 2 ^ (v % 64) % 2) 1

-- The map with the byte's bit set; where it is set already nothing changes.
unfoldable pub marked : Seen → ℕ → Seen
marked s v = cond (has_seen s v) s (map_of (set (words s) (v / 64) (word_of s v + 2 ^ (v % 64))))

-- ---- the model

-- Nothing observed: `new`, and after `reset`.
abbrev pub fresh : ℕ → HistogramDetector
fresh size = record { size = size; total = 0; seen = none_seen; saturated = false }

-- One observation of the byte v: it is seen, its bin's count and the total have one more, and where one of the two is full then, the model is saturated from there on.
abbrev pub seeing : HistogramDetector → List ℕ → ℕ → HistogramDetector
seeing m counts v =
    record {
      size = m.size;
      total = one_more m.total;
      seen = marked m.seen v;
      saturated = m.saturated || (is_full (one_more (get_or counts (index_of m.size v) 0)) || is_full (one_more m.total));
    }

-- The bin's part of all observations.
abbrev pub bin_ratio : HistogramDetector → List ℕ → ℕ → Float
bin_ratio m counts v = ratio (get_or counts (index_of m.size v) 0) m.total

-- A saturated or an empty model raises nothing; a byte that was never seen is anomalous, whatever shares its bin; else the bin's part decides, and it is below no NaN.
abbrev pub anomalous : HistogramDetector → List ℕ → ℕ → Float → Bool
anomalous m counts v threshold =
    cond m.saturated false (cond (eqb m.total 0) false (cond (has_seen m.seen v) (lt (bin_ratio m counts v) threshold) true))

-- ---- the calls: 18 exactly where the size or the counts do not fit, and then model and counts are what they were

-- What a call that changes a model leaves: the number that it answers, the model, and the lent counts.
pub record Binned : Type 0 where
  pub number : ℕ
  pub model : HistogramDetector
  pub counts : List ℕ

abbrev pub binned : ℕ → HistogramDetector → List ℕ → Binned
binned n m c = record { number = n; model = m; counts = c }

abbrev pub histogram_means : Changed HistogramDetector → List ℕ → Binned
histogram_means r counts = binned (answer_means r.answer) r.model counts

unfoldable pub new_bins : ℕ → List ℕ → Binned
new_bins size counts = cond (bins_fit size (length counts)) (binned 0 (fresh size) (cleared counts)) (binned 18 (fresh size) counts)

unfoldable pub observed : HistogramDetector → List ℕ → ℕ → Binned
observed m counts v = cond (bins_fit m.size (length counts)) (binned 0 (seeing m counts v) (counted counts (index_of m.size v))) (binned 18 m counts)

unfoldable pub reset_bins : HistogramDetector → List ℕ → Binned
reset_bins m counts = cond (bins_fit m.size (length counts)) (binned 0 (fresh m.size) (cleared counts)) (binned 18 m counts)

unfoldable pub probability_of : HistogramDetector → List ℕ → ℕ → Scored
probability_of m counts v = cond (bins_fit m.size (length counts)) (scored (bin_ratio m counts v)) (unscored 18)

-- Whether a byte is anomalous, or a refusal by its number.
pub data Judged : Type 0 where
  judged : Bool → Judged
  unjudged : ℕ → Judged

abbrev pub judgement_means : Result Bool Misfit → Judged
judgement_means (Ok flag) = judged flag
judgement_means (Err _) = unjudged 18

unfoldable pub judged_of : HistogramDetector → List ℕ → ℕ → Float → Judged
judged_of m counts v threshold = cond (bins_fit m.size (length counts)) (judged (anomalous m counts v threshold)) (unjudged 18)
