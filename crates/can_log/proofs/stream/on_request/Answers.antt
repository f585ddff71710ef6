-- `can_log::stream::on_request` meets its contract.
-- Assumes nothing.
use Rattle.can_log.proofs.Steps.{does}
use Rattle.can_log.specs.declared.decode.Request.{Request}
use Rattle.can_log.specs.declared.stream.Log.{Log}
use Rattle.can_log.specs.Records.{request_means}
use Rattle.can_log.specs.Output.{Move, request_step, settled_step, called_step}
use Rattle.can_log.proofs.Below.{by_new, by_define, by_remove}
use Prim.Native.Nat.{ℕ}
use Rattle.can_log.specs.Lines.{ascii, slot_answer, done_answer}
use Rattle.table.specs.declared.Defined.{Defined}
use mathlib.Core.Path.{◌∙◌, ap, sym}
use Rattle.can_log.proofs.stream.on_request.Goals as goal

abbrev requested : Log → Request → Move
requested log q = request_step log (request_means q)

pub returns-in-Settings : goal.returns-in-Settings
returns-in-Settings c = does (ap (λ (z : Defined Unit). settled_step c.args.log z.engine z.answer) (by_new _ _ c.new.ensures) ∙ ap (requested c.args.log) (sym c.in-Settings.is)) c.on_settled.ensures

pub returns-in-Define : goal.returns-in-Define
returns-in-Define c =
    does (ap (called_step c.args.log (ascii "D ") 24 c.define_signal-done.result.engine) c.from.ensures
    ∙ ap (λ (z : Defined ℕ). called_step c.args.log (ascii "D ") 24 z.engine (slot_answer z.answer)) (by_define _ _ c.define_signal-done.ensures)
    ∙ ap (requested c.args.log) (sym c.in-Define.is)) c.on_called.ensures

pub returns-in-Remove : goal.returns-in-Remove
returns-in-Remove c =
    does (ap (called_step c.args.log (ascii "R ") 4 c.remove_signal-done.result.engine) c.from-in-Remove.ensures
    ∙ ap (λ (z : Defined Unit). called_step c.args.log (ascii "R ") 4 z.engine (done_answer z.answer)) (by_remove _ _ c.remove_signal-done.ensures)
    ∙ ap (requested c.args.log) (sym c.in-Remove.is)) c.on_called-in-Remove.ensures
