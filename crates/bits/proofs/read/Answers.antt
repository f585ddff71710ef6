-- `bits::read` meets its contract: the signal is cut out of eight bytes that it stands in.
-- Assumes nothing.
use mathlib.Core.Path.{◌∙◌}
use Prim.Native.Nat.{◌*◌}
use native.Mathlib.Omega.{arith}
use Rattle.bits.proofs.Gathering.{within}
use Rattle.bits.proofs.read.Goals as goal

pub returns : goal.returns
returns c =
    let a = c.args in
    let below = c.ranked-below in
    let w = c.eight_bytes in
    c.cut.ensures
    ∙ within a.«data».now a.order (8 * c.min-at.result) 64 a.m a.len below.result w.result w.ensures below.ensures.0 (omega arith) (omega arith) (omega arith)
