-- `can_log::lines::put_anomalies` meets its contract.
-- Assumes nothing.
use mathlib.Core.Path.{◌≡◌}
use lib.ListN.{length, take}
use Rattle.can_log.specs.Lines.{Put, anomaly_lines}
use Rattle.can_log.proofs.lines.put_anomalies.Given as goal

abbrev pub invariant-loop-x : goal.invariant-loop-x
invariant-loop-x l = (length l.out ≡ length l.initial.out) × Put l.initial.out l.at (anomaly_lines l.n (take l.x-index l.fn.list)) l.end l.out
