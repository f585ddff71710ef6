-- Document 01, "The log", as amended by document 02, T-05: all that is printed for an input, `output`.
-- Assumes nothing.
use Rattle.std.specs.Prelude.{ℕ, zero, suc, ◌+◌, Bool, true, false, cond, List, [], ◌++◌, length, take, drop, eqb, Float, Result, Ok, Err}
use Rattle.std.specs.Float.Ieee.{of_bits}
use Rattle.std.specs.Float.{binary32}
use Rattle.conversion.specs.declared.SignalDefinition.{SignalDefinition}
use Rattle.table.specs.declared.SignalIdsEngine.{SignalIdsEngine}
use Rattle.table.specs.declared.TableError.{TableError}
use Rattle.table.specs.declared.Defined.{Defined}
use Rattle.table.specs.Table.{error_number, table_of, created, defined, define', remove'}
use Rattle.frames.specs.declared.FrameHeader.{FrameHeader}
use Rattle.frames.specs.declared.CanFrame.{CanFrame}
use Rattle.frames.specs.Frames.{frame_with, Framed, processed_frame}
use Rattle.can_log.specs.declared.lines.Answer.{Answer}
use Rattle.can_log.specs.declared.stream.Log.{Log}
use Rattle.can_log.specs.declared.stream.Status.{Status}
use Rattle.can_log.specs.Records.{Front, item_of}
use Rattle.can_log.specs.Lines.{ascii, slot_answer, done_answer, answer_line, anomaly_lines, end_line}

-- ---- what the calls of the layers below answer, each under one name
unfoldable pub created_by : Float → Float → Defined Unit
created_by alpha threshold = created alpha threshold

unfoldable pub defined_by : SignalIdsEngine → SignalDefinition → Defined ℕ
defined_by e d = defined e (define' (table_of e) d)

unfoldable pub removed_by : SignalIdsEngine → ℕ → Defined Unit
removed_by e slot = defined e (remove' (table_of e) slot)

unfoldable pub processed_by : SignalIdsEngine → CanFrame → Framed
processed_by e f = processed_frame e f

-- ---- a log so far: how many sound records there were, and the engine that they left.
-- Before the first the engine is the empty one that stands beside refused settings
unfoldable pub start_of : Log
start_of = record { count = 0; engine = (created_by (of_bits binary32 0) (of_bits binary32 0)).engine }

-- one more sound record, with the engine that it left
abbrev pub counted_of : Log → SignalIdsEngine → Log
counted_of log e = record { count = log.count + 1; engine = e }

-- how a log stands
pub data Standing : Type 0 where
  -- a record was taken, and the next may follow
  goes : Standing
  -- the bytes at hand are no whole record
  waits : Standing
  -- there may be no room for what the next record prints
  full : Standing
  -- it has stopped, and its end line is printed
  stopped : Standing

-- what each case of `Status` means
abbrev pub status_means : Status → Standing
status_means Status.Going = goes
status_means Status.Waiting = waits
status_means Status.Full = full
status_means Status.Ended = stopped

-- what one record does: the log after it, how many bytes it took, what it printed, and how the log stands
pub record Move : Type 0 where
  pub log : Log
  pub used : ℕ
  pub text : List ℕ
  pub status : Standing

-- a sound record of n bytes
abbrev pub go_step : Log → ℕ → List ℕ → SignalIdsEngine → Move
go_step log n text e = record { log = counted_of log e; used = n; text = text; status = goes }

-- the log stops, with its number
abbrev pub stop_step : Log → ℕ → Move
stop_step log k = record { log = log; used = 0; text = end_line log.count k; status = stopped }

abbrev pub waiting : Log → Move
waiting log = record { log = log; used = 0; text = []; status = waits }

-- no whole record in the n bytes that are left: at the end of the input 0 if none is left, and else 11
abbrev pub last_number : ℕ → ℕ
last_number n = cond (eqb n 0) 0 11

abbrev pub wait_step : Bool → Log → ℕ → Move
wait_step true log n = stop_step log (last_number n)
wait_step false log n = waiting log

-- settings that are refused are no sound record
abbrev pub settled_step : Log → SignalIdsEngine → Result Unit TableError → Move
settled_step log e (Ok done) = go_step log 10 [] e
settled_step log e (Err k) = stop_step log (error_number k)

-- a table call, which is a sound record of n bytes also where it is refused
abbrev pub called_step : Log → List ℕ → ℕ → SignalIdsEngine → Answer → Move
called_step log letter n e a = go_step log n (answer_line letter (log.count + 1) a) e

-- a frame, whose record has n bytes, prints a line for each listed anomaly
abbrev pub frame_step : Log → ℕ → CanFrame → Move
frame_step log n f =
    let r = processed_by log.engine f in
    go_step log n (anomaly_lines (log.count + 1) (take r.result.anomaly_count r.result.anomalies)) r.engine

-- behind the eight bytes of a frame's mark and header stand its data bytes: eight of a classic frame, 64 of an FD one (T-05)
abbrev pub data_size : FrameHeader → ℕ
data_size h = cond h.is_fd 64 8

abbrev pub frame_size : FrameHeader → ℕ
frame_size h = 8 + data_size h

abbrev pub data_of : FrameHeader → List ℕ → List ℕ
data_of h s = take (data_size h) (drop 8 s)

abbrev pub frame_at : FrameHeader → List ℕ → CanFrame
frame_at h s = frame_with h (data_of h s)

-- what stands at the front of the bytes s does this; `ended` says whether the input ends with them
abbrev pub item_step : Bool → Log → List ℕ → Front → Move
item_step ended log s Front.incomplete = wait_step ended log (length s)
item_step ended log s (Front.fault k) = stop_step log k
item_step ended log s (Front.settings a t) = settled_step log (created_by a t).engine (created_by a t).answer
item_step ended log s (Front.definition d) = called_step log (ascii "D ") 24 (defined_by log.engine d).engine (slot_answer (defined_by log.engine d).answer)
item_step ended log s (Front.removal k) = called_step log (ascii "R ") 4 (removed_by log.engine k).engine (done_answer (removed_by log.engine k).answer)
item_step ended log s (Front.frame h) = frame_step log (frame_size h) (frame_at h s)

-- the same of a record for the table: neither the bytes behind it nor the end of the input matter
abbrev pub request_step : Log → Front → Move
request_step log i = item_step false log [] i

unfoldable pub step_of : Bool → Log → List ℕ → Move
step_of ended log s = item_step ended log s (item_of log.count s)

-- ---- THE DEFINITION: what is printed for the bytes of an input, record by record until the log stops
abbrev pub goes_on : Standing → Bool
goes_on goes = true
goes_on waits = false
goes_on full = false
goes_on stopped = false

-- by at most f records
unfoldable pub run : ℕ → Log → List ℕ → List ℕ
run zero log s = []
run (suc f) log s = let m = step_of true log s in m.text ++ cond (goes_on m.status) (run f m.log (drop m.used s)) []

-- a record takes a byte at least, or is the last
abbrev pub output_from : Log → List ℕ → List ℕ
output_from log s = run (suc (length s)) log s

abbrev pub output : List ℕ → List ℕ
output s = output_from start_of s
