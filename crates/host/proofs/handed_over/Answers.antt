-- `host::handed_over` meets its contract. Assumes nothing.
use mathlib.Core.Path.{sym, ap, ◌∙◌}
use Prim.Native.Nat.{ℕ}
use Rattle.std.specs.Prelude.{Result}
use Rattle.detector.specs.declared.EwmaDetector.{EwmaDetector}
use Rattle.detector.specs.declared.DetectorError.{DetectorError}
use Rattle.detector.specs.Answers.{refusal_number, made_means}
use Rattle.detector.specs.Ewma.{idle}
use Rattle.host.specs.declared.MadeDetector.{MadeDetector}
use Rattle.host.specs.Answers.{handed}
use Rattle.host.proofs.handed_over.Goals as goal

abbrev answer : Result EwmaDetector DetectorError → MadeDetector
answer m = handed idle (made_means m)

abbrev beside : EwmaDetector → ℕ → MadeDetector
beside d n = record { refusal = n; detector = d }

pub returns-in-Ok : goal.returns-in-Ok
returns-in-Ok c = sym (ap answer c.in-Ok.is)

pub returns-in-Err : goal.returns-in-Err
returns-in-Err c = ap (beside c.idle.result) ((c.from-in-Err.ensures ∙ c.from.ensures)) ∙ ap (λ (d : EwmaDetector). beside d (refusal_number c.in-Err.error)) c.idle.ensures ∙ sym (ap answer c.in-Err.is)
