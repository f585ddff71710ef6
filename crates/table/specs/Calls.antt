-- Document 01, "The table", over any sequence of table calls, with frames between them: the table that they leave and the slots that they give.
-- Assumes nothing.
use Rattle.std.specs.Prelude.{List, [], ◌∷◌, ◌++◌, map, ℕ, ◌+◌, take}
use Rattle.conversion.specs.declared.SignalDefinition.{SignalDefinition}
use Rattle.detector.specs.declared.EwmaDetector.{EwmaDetector}
use Rattle.table.specs.declared.Signal.{Signal}
use Rattle.table.specs.declared.Entry.{Entry}
use Rattle.table.specs.Rows.{drop_first}
use Rattle.table.specs.Table.{Table, Told, accepted, refused, with_rows, entry_of, has, define', batch', remove'}

-- a table call, with its arguments
pub data TableCall : Type 0 where
  defines : SignalDefinition → TableCall
  batches : List SignalDefinition → ℕ → TableCall
  removes : ℕ → TableCall

-- what an accepted call answers: a definition's slot, and nothing else
abbrev pub Answer : TableCall → Type 0
Answer (defines d) = ℕ
Answer (batches ds n) = Unit {0}
Answer (removes s) = Unit {0}

abbrev pub told : Table → (c : TableCall) → Told (Answer c)
told t (defines d) = define' t d
told t (batches ds n) = batch' t ds n
told t (removes s) = remove' t s

-- the table after an answer: a refusal leaves it
abbrev pub left : {A : Type 0} → Table → Told A → Table
left t (accepted a u) = u
left t (refused k) = t

abbrev pub after : Table → TableCall → Table
after t c = left t (told t c)

-- ---- what may happen to a table: a call; or detectors move, as at a frame, each to what m makes of its row, and all else of the row stays
pub data Event : Type 0 where
  calls : TableCall → Event
  moves : (Entry → EwmaDetector) → Event

abbrev pub with_detector : (Entry → EwmaDetector) → Entry → Entry
with_detector m r = record { id = r.id; signal = r.signal; detector = m r }

abbrev pub happened : Table → Event → Table
happened t (calls c) = after t c
happened t (moves m) = with_rows t (map (with_detector m) t.rows)

-- the table after all of it, in order
abbrev pub ran : Table → List Event → Table
ran t [] = t
ran t (v ∷ vs) = ran (happened t v) vs

-- ---- the slots that calls give
-- the definitions that a call brings
abbrev pub brought : TableCall → List SignalDefinition
brought (defines d) = d ∷ []
brought (batches ds n) = take n ds
brought (removes s) = []

-- definitions with slots from s on
abbrev pub numbered : ℕ → List SignalDefinition → List Signal
numbered s [] = []
numbered s (d ∷ l) = record { slot = s; definition = d } ∷ numbered (s + 1) l

-- an accepted call gives what it brings slots from the next slot on, a refused one gives none
abbrev pub given : {A : Type 0} → ℕ → List SignalDefinition → Told A → List Signal
given s l (accepted a u) = numbered s l
given s l (refused k) = []

abbrev pub given_at : Table → Event → List Signal
given_at t (calls c) = given t.next (brought c) (told t c)
given_at t (moves m) = []

-- all that is given, in order
abbrev pub granted : Table → List Event → List Signal
granted t [] = []
granted t (v ∷ vs) = given_at t v ++ granted (happened t v) vs

-- ---- the rows that an accepted call puts in, and those that it leaves
abbrev pub new_rows : Table → List SignalDefinition → List Entry
new_rows t l = map (λ s. entry_of t.fresh s.slot s.definition) (numbered t.next l)

-- define puts its row before those with the same identifier
abbrev pub rows_before : Table → TableCall → List Entry
rows_before t (defines d) = new_rows t (d ∷ [])
rows_before t (batches ds n) = []
rows_before t (removes s) = []

-- a batch puts its own behind them, in batch order
abbrev pub rows_behind : Table → TableCall → List Entry
rows_behind t (defines d) = []
rows_behind t (batches ds n) = new_rows t (take n ds)
rows_behind t (removes s) = []

-- removal takes out the first row with the slot
abbrev pub rows_left : Table → TableCall → List Entry
rows_left t (defines d) = t.rows
rows_left t (batches ds n) = t.rows
rows_left t (removes s) = drop_first (has s) t.rows

-- how many rows an accepted call takes out
abbrev pub taken_out : TableCall → ℕ
taken_out (defines d) = 0
taken_out (batches ds n) = 0
taken_out (removes s) = 1
