-- Document 01, "The log": "where a read of the input ended never shows". What one call does with a piece of the input, and what a run of calls prints.
-- Assumes nothing.
use Rattle.std.specs.Prelude.{ℕ, zero, suc, ◌+◌, ◌-◌, ◌≡◌, Bool, true, false, cond, List, [], ◌∷◌, ◌++◌, length, drop, ltb}
use Rattle.table.specs.declared.SignalIdsEngine.{SignalIdsEngine}
use Rattle.can_log.specs.declared.stream.Log.{Log}
use Rattle.can_log.specs.declared.stream.Status.{Status}
use Rattle.can_log.specs.declared.stream.Step.{Step}
use Rattle.can_log.specs.Lines.{Put}
use Rattle.can_log.specs.Output.{Standing, status_means, Move, counted_of, step_of, goes_on, output_from}

-- ---- one call: records one by one, while they are whole and there is room for what any record prints

-- no record prints more than eight lines of an anomaly, of at most 55 bytes each
abbrev pub room_of : ℕ
room_of = 512

abbrev pub full_move : Log → Move
full_move log = record { log = log; used = 0; text = []; status = Standing.full }

-- a move behind a move
abbrev pub behind : Move → Move → Move
behind m n = record { log = n.log; used = m.used + n.used; text = m.text ++ n.text; status = n.status }

-- a move with so many bytes taken before it
abbrev pub after : ℕ → Move → Move
after used m = record { log = m.log; used = used + m.used; text = m.text; status = m.status }

unfoldable pub run_on : ℕ → ℕ → Bool → Log → List ℕ → Move
run_on zero room ended log s = full_move log
run_on (suc f) room ended log s =
    let m = step_of ended log s in
    cond (ltb room room_of) (full_move log)
    (cond (goes_on m.status) (behind m (run_on f (room - length m.text) ended m.log (drop m.used s))) m)

-- what a call does with the bytes s and so much room; `ended` says whether the input ends with them
abbrev pub advance_of : ℕ → Bool → Log → List ℕ → Move
advance_of room ended log s = run_on (suc (length s)) room ended log s

-- a move as it is told and written: r is the answer, and e what the buffer d has become, the move's text standing in it from place `at` on
pub record Does (d : List ℕ) (at : ℕ) (m : Move) (r : Step) (e : List ℕ) : Type 0 where
  pub log : r.log ≡ m.log
  pub used : r.used ≡ m.used
  pub put : Put d at m.text r.end e
  pub status : status_means r.status ≡ m.status

-- what a call answers
abbrev pub answer_of : Log → ℕ → ℕ → Status → Step
answer_of log used end status = record { log = log; used = used; end = end; status = status }

-- the answer after a sound record
abbrev pub sound_of : Log → SignalIdsEngine → ℕ → ℕ → Step
sound_of log e used end = answer_of (counted_of log e) used end Status.Going

-- ---- a run of calls

abbrev pub concat : List (List ℕ) → List ℕ
concat [] = []
concat (x ∷ xs) = x ++ concat xs

abbrev pub is_ended : Standing → Bool
is_ended Standing.goes = false
is_ended Standing.waits = false
is_ended Standing.full = false
is_ended Standing.stopped = true

-- what is still to be printed after a move, s the bytes that it left and all behind them
abbrev pub left : Move → List ℕ → List ℕ
left m s = cond (is_ended m.status) [] (output_from m.log s)

-- A run of calls from a log on, p being the bytes at hand and the pieces those that reads will bring: calls and reads in any order,
-- with any room at each call. No call is told that the input has ended while a byte is to come. The last list is what the calls print.
pub data Calls : Log → List ℕ → List (List ℕ) → List ℕ → Type 0 where
  read : {log : Log} {p x : List ℕ} {xs : List (List ℕ)} {t : List ℕ} → Calls log (p ++ x) xs t → Calls log p (x ∷ xs) t
  call : {log : Log} {p : List ℕ} {xs : List (List ℕ)} {t : List ℕ} (room : ℕ) (ended : Bool) → (ended ≡ true → concat xs ≡ []) → (m : Move) → m ≡ advance_of room ended log p
      → is_ended m.status ≡ false → Calls m.log (drop m.used p) xs t → Calls log p xs (m.text ++ t)
  last : {log : Log} {p : List ℕ} {xs : List (List ℕ)} (room : ℕ) (ended : Bool) → (ended ≡ true → concat xs ≡ []) → (m : Move) → m ≡ advance_of room ended log p
      → is_ended m.status ≡ true → Calls log p xs m.text

-- the rooms of its calls, in order
abbrev pub rooms : {log : Log} {p : List ℕ} {xs : List (List ℕ)} {t : List ℕ} → Calls log p xs t → List ℕ
rooms (read c) = rooms c
rooms (call room ended h m q d c) = room ∷ rooms c
rooms (last room ended h m q d) = room ∷ []
