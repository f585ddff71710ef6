-- The customer's third demand: frames of one message leave every other message's answers and detectors as they are.
-- Here stand the calls on an engine, what a sequence of them answers and leaves, and what of it concerns a key, which is an effective identifier with a
-- frame type (document 01, "One frame"). A run of compiled calls, which is known by their promises alone, is `Run` in proofs/Compiled.
-- Assumes nothing.
use Rattle.std.specs.Prelude.{Bool, true, false, cond, List, [], ◌∷◌, ◌++◌, ℕ, length, Result}
use Rattle.table.specs.declared.TableError.{TableError}
use Rattle.table.specs.declared.Signal.{Signal}
use Rattle.table.specs.declared.Entry.{Entry}
use Rattle.table.specs.declared.SignalIdsEngine.{SignalIdsEngine}
use Rattle.table.specs.Rows.{keep}
use Rattle.table.specs.Table.{live, table_of, defined}
use Rattle.table.specs.Calls.{TableCall, defines, batches, removes, Answer, told, brought, given}
use Rattle.frames.specs.declared.CanFrame.{CanFrame}
use Rattle.frames.specs.Frames.{Answered, same_key, effective_of, applies, processed, processed_frame}

-- a call with its arguments: one on the table, one that asks for its count or its next slot, a frame, or a raw frame by identifier, bytes and data length
pub data Call : Type 0 where
  tabled : TableCall → Call
  count_asked : Call
  next_asked : Call
  framed : CanFrame → Call
  raw_framed : ℕ → List ℕ → ℕ → Call

-- what a call answers, beside the engine
pub data Said : Type 0 where
  gave_slot : Result ℕ TableError → Said
  gave_nothing : Result Unit TableError → Said
  number : ℕ → Said
  saw : Answered → Said

-- a call on the table by what it answers: a definition's slot, or that it is done
abbrev pub gave : (c : TableCall) → Result (Answer c) TableError → Said
gave (defines d) r = gave_slot r
gave (batches ds n) r = gave_nothing r
gave (removes s) r = gave_nothing r

-- ---- what a call answers and leaves, by the functions that the promises cite
abbrev pub said : SignalIdsEngine → Call → Said
said e (tabled c) = gave c (defined e (told (table_of e) c)).answer
said e count_asked = number (length (live e))
said e next_asked = number e.next_slot
said e (framed f) = saw (processed_frame e f).result
said e (raw_framed id s n) = saw (processed e id false s n).result

abbrev pub after : SignalIdsEngine → Call → SignalIdsEngine
after e (tabled c) = (defined e (told (table_of e) c)).engine
after e count_asked = e
after e next_asked = e
after e (framed f) = (processed_frame e f).engine
after e (raw_framed id s n) = (processed e id false s n).engine

-- the answers to the calls, and the engine after them
abbrev pub answers : SignalIdsEngine → List Call → List Said
answers e [] = []
answers e (c ∷ cs) = said e c ∷ answers (after e c) cs

abbrev pub ran : SignalIdsEngine → List Call → SignalIdsEngine
ran e [] = e
ran e (c ∷ cs) = ran (after e c) cs

-- ---- the slots that calls give, each with its definition, in order: only calls on the table give any
abbrev pub gives : SignalIdsEngine → Call → List Signal
gives e (tabled c) = given e.next_slot (brought c) (told (table_of e) c)
gives e count_asked = []
gives e next_asked = []
gives e (framed f) = []
gives e (raw_framed id s n) = []

abbrev pub granted : SignalIdsEngine → List Call → List Signal
granted e [] = []
granted e (c ∷ cs) = gives e c ++ granted (after e c) cs

-- ---- a key
-- every call on the table concerns the key, and of the frames its own: for a raw frame the unmasked identifier with the standard type
abbrev pub concerns : ℕ → Bool → Call → Bool
concerns id extended (tabled c) = true
concerns id extended count_asked = true
concerns id extended next_asked = true
concerns id extended (framed f) = same_key (effective_of f) f.is_extended id extended
concerns id extended (raw_framed i s n) = same_key i false id extended

-- the answers to those calls that pass the test
abbrev pub answers_to : (Call → Bool) → List Call → List Said → List Said
answers_to p [] heard = []
answers_to p (c ∷ cs) [] = []
answers_to p (c ∷ cs) (a ∷ heard) = cond (p c) (a ∷ answers_to p cs heard) (answers_to p cs heard)

-- the key's definitions with their slots and detectors, in table order
abbrev pub of_key : ℕ → Bool → SignalIdsEngine → List Entry
of_key id extended e = keep (applies id extended) (live e)
