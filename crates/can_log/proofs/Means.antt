-- Document 02, T-06, for a log: the engine of a log that `start` made has finite means only, in every place, after any calls of `advance`. Each call keeps that,
-- whoever made the log. Over what the promises tell. Assumes nothing.
use mathlib.Core.Path.{sym, subst}
use mathlib.Core.Bool.{Bool, true, false, cond}
use mathlib.Core.List.{List}
use Prim.Native.Nat.{ℕ, zero, suc, ◌-◌}
use lib.Dec.{ltb}
use lib.Ieee.{binary32, of_bits}
use lib.ListN.{length, drop}
use contract.Lifetimes.{Lfts}
use Rattle.std.specs.Prelude.{Result, Ok, Err}
use Rattle.table.specs.declared.TableError.{TableError}
use Rattle.table.specs.declared.SignalIdsEngine.{SignalIdsEngine}
use Rattle.table.specs.Calls.{defines, removes}
use Rattle.frames.specs.Isolation.{tabled, framed}
use Rattle.frames.proofs.Means.{FiniteMeans, after_finite, created_finite}
use Rattle.can_log.specs.declared.stream.Log.{Log}
use Rattle.can_log.specs.declared.stream.Step.{Step}
use Rattle.can_log.specs.Records.{Front, item_of}
use Rattle.can_log.specs.Output.{Move, created_by, defined_by, removed_by, processed_by, start_of, settled_step, frame_at, wait_step, item_step, step_of, goes_on}
use Rattle.can_log.specs.Pieces.{room_of, full_move, behind, run_on}
use Rattle.can_log.proofs.stream.start.Reads as start
use Rattle.can_log.proofs.stream.advance.Reads as advance

abbrev LogFinite : Log → Type 0
LogFinite log = FiniteMeans log.engine

abbrev MoveFinite : Move → Type 0
MoveFinite m = LogFinite m.log

settled_finite : (log : Log) (e : SignalIdsEngine) (a : Result Unit TableError) → LogFinite log → FiniteMeans e → MoveFinite (settled_step log e a)
settled_finite log e (Ok done) h k = k
settled_finite log e (Err n) h k = h

wait_finite : (ended : Bool) (log : Log) (n : ℕ) → LogFinite log → MoveFinite (wait_step ended log n)
wait_finite true log n h = h
wait_finite false log n h = h

item_finite : (ended : Bool) (log : Log) (s : List ℕ) (i : Front) → LogFinite log → MoveFinite (item_step ended log s i)
unfolding created_by defined_by removed_by processed_by
item_finite ended log s Front.incomplete h = wait_finite ended log (length s) h
item_finite ended log s (Front.fault k) h = h
item_finite ended log s (Front.settings a t) h = settled_finite log (created_by a t).engine (created_by a t).answer h (created_finite a t)
item_finite ended log s (Front.definition d) h = after_finite log.engine (tabled (defines d)) h
item_finite ended log s (Front.removal k) h = after_finite log.engine (tabled (removes k)) h
item_finite ended log s (Front.frame head) h = after_finite log.engine (framed (frame_at head s)) h

step_finite : (ended : Bool) (log : Log) (s : List ℕ) → LogFinite log → MoveFinite (step_of ended log s)
unfolding step_of
step_finite ended log s h = item_finite ended log s (item_of log.count s) h

run_finite : (f room : ℕ) (ended : Bool) (log : Log) (s : List ℕ) → LogFinite log → MoveFinite (run_on f room ended log s)
unfolding run_on
run_finite zero room ended log s h = h
run_finite (suc f) room ended log s h =
    go (ltb room room_of) (goes_on m.status) (run_finite f (room - length m.text) ended m.log (drop m.used s) (step_finite ended log s h))
  where
    m : Move
    m = step_of ended log s

    go : (b c : Bool)
        → MoveFinite (run_on f (room - length m.text) ended m.log (drop m.used s))
        → MoveFinite (cond b (full_move log) (cond c (behind m (run_on f (room - length m.text) ended m.log (drop m.used s))) m))
    go true c rest = h
    go false true rest = rest
    go false false rest = step_finite ended log s h

-- ---- of what the compiled calls return

pub start_finite : (κs : Lfts 0) (log : Log) (x : _) → start.Learnt κs tt log x → FiniteMeans log.engine
unfolding start_of created_by
start_finite κs log x p = subst LogFinite (sym p) (created_finite (of_bits binary32 0) (of_bits binary32 0))

pub advance_keeps_finite : (κs : Lfts 2) (log : Log) (s : _) (ended : Bool) (out : _) (r : Step) (x : _)
    → advance.Learnt κs (log, (s, (ended, (out, tt)))) r x
    → FiniteMeans log.engine
    → FiniteMeans r.log.engine
advance_keeps_finite κs log s ended out r x w h =
    subst LogFinite (sym w.log) (run_finite (suc (length s.now)) (length out.now) ended log s.now h)
