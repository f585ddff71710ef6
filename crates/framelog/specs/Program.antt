-- Document 01, "The log": the program, which reads standard input and hands its lines to standard output. What a read brought and whether a write took
-- its lines is left open; all else of a turn of the program is said.
-- Assumes nothing.
use Rattle.std.specs.Prelude.{ℕ, zero, suc, ◌+◌, ◌-◌, ◌≡◌, ◌==◌, Bool, true, false, cond, not, ◌&&◌, List, [], ◌∷◌, ◌++◌, ◌⊎◌, ◌≤◌, length, take, drop, Option, Some, None, IfSome}
use Rattle.std.proofs.lemmas.List.Edits.{sets}
use Rattle.can_log.specs.declared.stream.Log.{Log}
use Rattle.can_log.specs.Output.{Standing, Move, start_of}
use Rattle.can_log.specs.Pieces.{advance_of, is_ended}
use Rattle.framelog.specs.declared.Got.{Got}
use Rattle.framelog.specs.declared.State.{State}

-- ---- a read

-- what the answer of a read says: that it failed, the end of the input, or so many bytes
abbrev pub got_of : Option ℕ → Got
got_of None = Got.Failed
got_of (Some zero) = Got.End
got_of (Some (suc n)) = Got.Bytes (suc n)

-- one read behind the first `have` bytes of a buffer, which stay. Where there is no room behind them, no call is made
pub record Read (have : ℕ) (buf : List ℕ) (got : Got) (buf' : List ℕ) : Type 0 where
  pub stay : take have buf' ≡ take have buf
  pub long : length buf' ≡ length buf
  -- what the call answered: none where it failed, or how many bytes, at most the room
  pub answer : Option ℕ
  pub moved : IfSome answer (λ n. n ≤ length buf - have)
  pub told : got ≡ cond (have == length buf) (Got.Bytes 0) (got_of answer)

-- ---- a step

abbrev pub is_waiting : Standing → Bool
is_waiting Standing.goes = false
is_waiting Standing.waits = true
is_waiting Standing.full = false
is_waiting Standing.stopped = false

-- the buffer after some of the first `have` bytes were taken: those that are left stand at its front
abbrev pub remaining : List ℕ → ℕ → ℕ → List ℕ
remaining buf have used = sets buf 0 (take (have - used) (drop used buf))

-- the state after a step that left `have` bytes: the next turn reads where the log waits, and there is none where it has stopped
abbrev pub next_of : Log → ℕ → Bool → Standing → State
next_of log have ended s = record { log = log; have = have; ended = ended; waiting = is_waiting s; going = not (is_ended s) }

-- the state after a read or a write that failed: there is no other turn
abbrev pub failed_of : Log → State
failed_of log = record { log = log; have = 0; ended = true; waiting = false; going = false }

-- the state once the step's lines were handed to a write, which took them or failed
abbrev pub after_write : Bool → Log → ℕ → Bool → Standing → State
after_write took log have ended s = cond took (next_of log have ended s) (failed_of log)

-- what the log does with the first `have` bytes
abbrev pub move_of : Log → ℕ → Bool → List ℕ → List ℕ → Move
move_of log have ended input out = advance_of (length out) ended log (take have input)

-- the log's move, its lines put at the front of the buffer `out` and handed to a write, which took them or failed
pub record Prints (log : Log) (have : ℕ) (ended : Bool) (input out : List ℕ) (r : State) (input' out' : List ℕ) : Type 0 where
  pub took : Bool
  pub state : let m = move_of log have ended input out in r ≡ after_write took m.log (have - m.used) ended m.status
  pub rest : let m = move_of log have ended input out in input' ≡ remaining input have m.used
  pub lines : let m = move_of log have ended input out in out' ≡ sets out 0 m.text

-- ---- a turn: where the log waits it reads first. The end of the input is told where a read brought no byte, and from then on
pub data Turn (st : State) (input out : List ℕ) (r : State) (input' out' : List ℕ) : Type 0 where
  unread : st.waiting ≡ false → Prints st.log st.have st.ended input out r input' out' → Turn st input out r input' out'
  more : st.waiting ≡ true → (n : ℕ) (buf : List ℕ) → Read st.have input (Got.Bytes n) buf → Prints st.log (st.have + n) false buf out r input' out'
      → Turn st input out r input' out'
  at_end : st.waiting ≡ true → (buf : List ℕ) → Read st.have input Got.End buf → Prints st.log st.have true buf out r input' out' → Turn st input out r input' out'
  unreadable : st.waiting ≡ true → Read st.have input Got.Failed input' → out' ≡ out → r ≡ failed_of st.log → Turn st input out r input' out'

-- the piece that it read, if any
abbrev pub piece_of : {st : State} {input out : List ℕ} {r : State} {input' out' : List ℕ} → Turn st input out r input' out' → List (List ℕ)
piece_of (unread w p) = []
piece_of {st} (more w n buf d p) = take n (drop st.have buf) ∷ []
piece_of (at_end w buf d p) = []
piece_of (unreadable w d o q) = []

-- the lines that it handed to the write
abbrev pub lines_of : {st : State} {input out : List ℕ} {r : State} {input' out' : List ℕ} → Turn st input out r input' out' → List ℕ
lines_of {st} {input} {out} (unread w p) = (move_of st.log st.have st.ended input out).text
lines_of {st} {input} {out} (more w n buf d p) = (move_of st.log (st.have + n) false buf out).text
lines_of {st} {input} {out} (at_end w buf d p) = (move_of st.log st.have true buf out).text
lines_of (unreadable w d o q) = []

-- whether neither its read nor its write failed
abbrev pub succeeds : {st : State} {input out : List ℕ} {r : State} {input' out' : List ℕ} → Turn st input out r input' out' → Bool
succeeds (unread w p) = p.took
succeeds (more w n buf d p) = p.took
succeeds (at_end w buf d p) = p.took
succeeds (unreadable w d o q) = false

-- ---- the program: turns one behind the other, while the state goes on
pub data Turns : State → List ℕ → List ℕ → State → List ℕ → List ℕ → Type 0 where
  none : {st : State} {input out : List ℕ} → Turns st input out st input out
  then : {st next : State} {input out input₁ out₁ : List ℕ} {r : State} {input' out' : List ℕ} → st.going ≡ true → Turn st input out next input₁ out₁
      → Turns next input₁ out₁ r input' out' → Turns st input out r input' out'

-- the pieces that were read; the lines that were handed to the writes, joined; whether nothing failed; and how many turns were made
abbrev pub pieces : {st : State} {input out : List ℕ} {r : State} {input' out' : List ℕ} → Turns st input out r input' out' → List (List ℕ)
pieces none = []
pieces (then g w ws) = piece_of w ++ pieces ws

abbrev pub lines : {st : State} {input out : List ℕ} {r : State} {input' out' : List ℕ} → Turns st input out r input' out' → List ℕ
lines none = []
lines (then g w ws) = lines_of w ++ lines ws

abbrev pub all_succeed : {st : State} {input out : List ℕ} {r : State} {input' out' : List ℕ} → Turns st input out r input' out' → Bool
all_succeed none = true
all_succeed (then g w ws) = succeeds w && all_succeed ws

abbrev pub made : {st : State} {input out : List ℕ} {r : State} {input' out' : List ℕ} → Turns st input out r input' out' → ℕ
made none = 0
made (then g w ws) = suc (made ws)

-- the state before the first turn: it reads
abbrev pub begun : State
begun = record { log = start_of; have = 0; ended = false; waiting = true; going = true }

-- all turns that the program makes, up to 2 ^ 64 - 1 of them
pub record Ran (input out input' out' : List ℕ) : Type 0 where
  pub state : State
  pub turns : Turns begun input out state input' out'
  pub over : (state.going ≡ false) ⊎ (made turns ≡ 18446744073709551615)
