-- Document 02, T-04: `MarkovDetector`, as source document 001 has it. m is a model; cells are its lent transitions, row after row, and rows its lent row totals.
-- Assumes nothing.
use Rattle.std.specs.Prelude.{Bool, false, ◌&&◌, ◌||◌, cond, List, ℕ, ◌+◌, ◌*◌, eqb, length, get_or}
use Rattle.models.specs.declared.MarkovDetector.{MarkovDetector}
use Rattle.models.specs.declared.Changed.{Changed}
use Rattle.models.specs.Counts.{sized, index_of, one_more, is_full, counted, cleared, ratio, answer_means, Scored, scored, unscored}

-- 1 to 64 states, lent transitions of exactly the square of that number, and lent row totals of exactly that number.
unfoldable pub states_fit : ℕ → ℕ → ℕ → Bool
states_fit size cells rows = sized size 64 && (eqb cells (size * size) && eqb rows size)

-- The place of a transition: the row is the index of `from`, and the place in it that of `to`.
abbrev pub cell_of : ℕ → ℕ → ℕ → ℕ
cell_of size from to = index_of size from * size + index_of size to

-- ---- the model

-- Nothing observed: `new`, and after `reset`.
abbrev pub fresh_states : ℕ → MarkovDetector
fresh_states size = record { size = size; saturated = false }

-- One observation of `from` followed by `to`: the transition and its row have one more, and where one of the two is full then, the model is saturated from there on.
abbrev pub moving : MarkovDetector → List ℕ → List ℕ → ℕ → ℕ → MarkovDetector
moving m cells rows from to =
    record {
      size = m.size;
      saturated = m.saturated || (is_full (one_more (get_or cells (cell_of m.size from to) 0)) || is_full (one_more (get_or rows (index_of m.size from) 0)));
    }

-- ---- the calls: 18 exactly where the size or the counts do not fit, and then model and counts are what they were

-- What a call that changes a model leaves: the number that it answers, the model, and the lent counts.
pub record Stated : Type 0 where
  pub number : ℕ
  pub model : MarkovDetector
  pub cells : List ℕ
  pub rows : List ℕ

abbrev pub stated : ℕ → MarkovDetector → List ℕ → List ℕ → Stated
stated n m c r = record { number = n; model = m; cells = c; rows = r }

abbrev pub markov_means : Changed MarkovDetector → List ℕ → List ℕ → Stated
markov_means r cells rows = stated (answer_means r.answer) r.model cells rows

unfoldable pub new_states : ℕ → List ℕ → List ℕ → Stated
new_states size cells rows =
    cond (states_fit size (length cells) (length rows)) (stated 0 (fresh_states size) (cleared cells) (cleared rows)) (stated 18 (fresh_states size) cells rows)

unfoldable pub moved : MarkovDetector → List ℕ → List ℕ → ℕ → ℕ → Stated
moved m cells rows from to =
    cond (states_fit m.size (length cells) (length rows))
    (stated 0 (moving m cells rows from to) (counted cells (cell_of m.size from to)) (counted rows (index_of m.size from)))
    (stated 18 m cells rows)

unfoldable pub reset_states : MarkovDetector → List ℕ → List ℕ → Stated
reset_states m cells rows =
    cond (states_fit m.size (length cells) (length rows)) (stated 0 (fresh_states m.size) (cleared cells) (cleared rows)) (stated 18 m cells rows)

-- The transition's part of its row; a saturated model answers as well.
unfoldable pub score_of : MarkovDetector → List ℕ → List ℕ → ℕ → ℕ → Scored
score_of m cells rows from to =
    cond (states_fit m.size (length cells) (length rows)) (scored (ratio (get_or cells (cell_of m.size from to) 0) (get_or rows (index_of m.size from) 0))) (unscored 18)
