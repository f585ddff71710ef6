-- Two results that a promise of this crate allows are equal, for each public call: the answers, and what a lent buffer holds.
-- At exit the buffer is the last parameter.
-- Assumes nothing.
use mathlib.Core.Path.{◌≡◌, refl, sym, ap, ◌∙◌}
use mathlib.Core.Bool.{cond}
use Prim.Native.Nat.{ℕ}
use lib.Dec.{eqb}
use Rattle.std.specs.Prelude.{Option, Some, None, Result, Ok, Err}
use Rattle.bits.proofs.Promise.{Determines, DeterminesLent}
use Rattle.can_log.specs.declared.decode.Request.{Request}
use Rattle.can_log.specs.declared.decode.Stop.{Stop}
use Rattle.can_log.specs.declared.decode.Item.{Item}
use Rattle.can_log.specs.declared.lines.NoRoom.{NoRoom}
use Rattle.can_log.specs.declared.stream.Status.{Status}
use Rattle.can_log.specs.declared.stream.Log.{Log}
use Rattle.can_log.specs.declared.stream.Step.{Step}
use Rattle.can_log.specs.Records.{Front, item_means}
use Rattle.can_log.specs.Lines.{Written, wrote, no_room, rendered_means}
use Rattle.can_log.specs.Output.{Standing, status_means}
use Rattle.can_log.proofs.decode.item_at_front.Reads as item-at-front
use Rattle.can_log.proofs.decode.U8FromStop.from.Reads as number
use Rattle.can_log.proofs.decode.MarkTryFromArrayU82.try_from.Reads as mark
use Rattle.can_log.proofs.lines.AnswerFromResultU16TableError.from.Reads as slot-answer
use Rattle.can_log.proofs.lines.AnswerFromResultUnitTableError.from.Reads as done-answer
use Rattle.can_log.proofs.lines.render.Reads as render
use Rattle.can_log.proofs.stream.start.Reads as start
use Rattle.can_log.proofs.stream.advance.Reads as advance

-- ---- the meaning of an answer tells all answers apart: each can be read back
abbrev stop_of_number : ℕ → Stop
stop_of_number k =
    cond (eqb k 10) Stop.UnknownMark
    (cond (eqb k 11) Stop.Cut (cond (eqb k 12) Stop.Misplaced (cond (eqb k 13) Stop.BadFlags (cond (eqb k 14) Stop.BadLength Stop.TooManyRecords))))

abbrev item_of_front : Front → Result (Option Item) Stop
item_of_front Front.incomplete = Ok None
item_of_front (Front.fault k) = Err (stop_of_number k)
item_of_front (Front.settings a t) = Ok (Some (Item.Call (Request.Settings a t)))
item_of_front (Front.definition d) = Ok (Some (Item.Call (Request.Define d)))
item_of_front (Front.removal k) = Ok (Some (Item.Call (Request.Remove k)))
item_of_front (Front.frame h) = Ok (Some (Item.Frame h))

item_read_back : (i : Result (Option Item) Stop) → item_of_front (item_means i) ≡ i
item_read_back (Ok None) = refl
item_read_back (Ok (Some (Item.Call (Request.Settings a t)))) = refl
item_read_back (Ok (Some (Item.Call (Request.Define d)))) = refl
item_read_back (Ok (Some (Item.Call (Request.Remove k)))) = refl
item_read_back (Ok (Some (Item.Frame h))) = refl
item_read_back (Err Stop.UnknownMark) = refl
item_read_back (Err Stop.Cut) = refl
item_read_back (Err Stop.Misplaced) = refl
item_read_back (Err Stop.BadFlags) = refl
item_read_back (Err Stop.BadLength) = refl
item_read_back (Err Stop.TooManyRecords) = refl

pub item_settled : (a b : Result (Option Item) Stop) → item_means a ≡ item_means b → a ≡ b
item_settled a b h = sym (item_read_back a) ∙ ap item_of_front h ∙ item_read_back b

abbrev answer_of_written : Written → Result ℕ NoRoom
answer_of_written (wrote n) = Ok n
answer_of_written no_room = Err (record {})

rendered_read_back : (a : Result ℕ NoRoom) → answer_of_written (rendered_means a) ≡ a
rendered_read_back (Ok n) = refl
rendered_read_back (Err e) = refl

pub rendered_settled : (a b : Result ℕ NoRoom) → rendered_means a ≡ rendered_means b → a ≡ b
rendered_settled a b h = sym (rendered_read_back a) ∙ ap answer_of_written h ∙ rendered_read_back b

abbrev status_of_standing : Standing → Status
status_of_standing Standing.goes = Status.Going
status_of_standing Standing.waits = Status.Waiting
status_of_standing Standing.full = Status.Full
status_of_standing Standing.stopped = Status.Ended

status_read_back : (a : Status) → status_of_standing (status_means a) ≡ a
status_read_back Status.Going = refl
status_read_back Status.Waiting = refl
status_read_back Status.Full = refl
status_read_back Status.Ended = refl

pub status_settled : (a b : Status) → status_means a ≡ status_means b → a ≡ b
status_settled a b h = sym (status_read_back a) ∙ ap status_of_standing h ∙ status_read_back b

-- ---- the calls
pub item_at_front_determined : Determines item-at-front.Learnt
item_at_front_determined κs a r q x y p w = item_settled r q (p ∙ sym w)

pub render_determined : DeterminesLent (λ κs x. x.1.0.now) render.Learnt
render_determined κs a r q x y p w = (rendered_settled r q (p.0 ∙ sym w.0), p.1 ∙ sym w.1)

pub start_determined : Determines start.Learnt
start_determined κs a r q x y p w = p ∙ sym w

alike : (r q : Step) → r.log ≡ q.log → r.used ≡ q.used → r.end ≡ q.end → r.status ≡ q.status → r ≡ q
alike r q a b d e =
    ap (λ (x : Log). record { log = x; used = r.used; end = r.end; status = r.status }) a
    ∙ ap (λ (x : ℕ). record { log = q.log; used = x; end = r.end; status = r.status }) b
    ∙ ap (λ (x : ℕ). record { log = q.log; used = q.used; end = x; status = r.status }) d
    ∙ ap (λ (x : Status). record { log = q.log; used = q.used; end = q.end; status = x }) e

pub advance_determined : DeterminesLent (λ κs x. x.1.1.1.0.now) advance.Learnt
advance_determined κs a r q x y p w = (
  alike r q (p.log ∙ sym w.log) (p.used ∙ sym w.used) (p.put.stop ∙ sym w.put.stop) (status_settled r.status q.status (p.status ∙ sym w.status)),
  p.put.done ∙ sym w.put.done,
)

-- ---- the conversions
pub number_determined : Determines number.Learnt
number_determined κs a r q x y p w = p ∙ sym w

pub mark_determined : Determines mark.Learnt
mark_determined κs a r q x y p w = p ∙ sym w

pub slot_answer_determined : Determines slot-answer.Learnt
slot_answer_determined κs a r q x y p w = p ∙ sym w

pub done_answer_determined : Determines done-answer.Learnt
done_answer_determined κs a r q x y p w = p ∙ sym w
