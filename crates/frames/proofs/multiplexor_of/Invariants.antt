-- `frames::multiplexor_of` meets its contract: the rows that the columns have left are left to search.
-- Assumes nothing.
use Prim.Native.Nat.{◌+◌}
use lib.ListN.{length, take, drop}
use Rattle.table.specs.Table.{rows_of}
use Rattle.frames.specs.Frames.{multiplexor_of}
use Rattle.frames.proofs.Search.{Seeking}
use Rattle.frames.proofs.multiplexor_of.Given as goal

abbrev pub invariant-loop-id : goal.invariant-loop-id
invariant-loop-id l =
    Seeking (record { engine = l.engine; n = l.n; key = l.key; payload = l.payload })
    (multiplexor_of l.key.id l.key.extended l.payload (length l.payload) (drop l.first (take l.n (rows_of l.engine))))
    l.id-iterator.a.rest.now l.id-iterator.b.rest.now (l.first + length l.yielded)
