-- `table::batch_fault` meets its contract: no definition so far has a fault. Assumes nothing.
use Rattle.std.proofs.Common.{◌≡◌, drop}
use Rattle.table.specs.Table.{faults}
use Rattle.table.proofs.batch_fault.Given as goal

abbrev pub invariant-loop-d : goal.invariant-loop-d
invariant-loop-d l = faults l.defs ≡ faults (drop l.d-index l.defs)
