-- `bits::gathered` meets its contract: the bytes that the signal touches, joined and cut, are its raw number.
-- Assumes nothing.
use mathlib.Core.Path.{ap, ◌∙◌}
use Prim.Native.Nat.{ℕ, ◌+◌, ◌/◌, ◌%◌, ◌^◌, ◌<◌}
use native.Mathlib.Omega.{arith}
use borrow.Author.Rules.{rules}
use lib.ListN.{get_or}
use Rattle.bits.proofs.Gathering.{Touched, touched, joined, gathers}
use Rattle.bits.proofs.gathered.Goals as goal

-- the bits below the signal are fewer than a byte has
low : (c : goal.After-above_lowest)
    → let a = c.args in
    Touched a.len c.div_ceil-n.result c.ranked-below.result
low c =
    let a = c.args in
    let below = c.ranked-below in
    touched a.order a.m a.len c.div_ceil-n.result below.result (omega arith) below.ensures.0

pub overflow_add-v : goal.overflow_add-v
overflow_add-v c =
    let a = c.args in
    let small : c.from.result < 256 = omega (arith, c.from.ensures, c.type_inv.data (a.m / 8 + c.ranked.result)) in
    record { fits = (joined c.from.result c.above_lowest.result c.ranked-below.result a.len small (low c).less (search rules)).fits }

pub returns : goal.returns
returns c =
    let a = c.args in
    let n = c.div_ceil-n.result in
    let high = c.above_lowest in
    let x = c.from in
    let below = c.ranked-below in
    let small : x.result < 256 = omega (arith, x.ensures, c.type_inv.data (a.m / 8 + c.ranked.result)) in
    c.cut.ensures ∙ ap (λ (y : ℕ). y % 2 ^ a.len) (omega arith)
    ∙ gathers a.«data».now a.order a.m a.len n below.result x.result high.result (search rules) (search rules) (omega arith) below.ensures.0 small
    (x.ensures ∙ ap (λ (k : ℕ). get_or a.«data».now (a.m / 8 + k) 0) c.ranked.ensures.0) high.ensures
