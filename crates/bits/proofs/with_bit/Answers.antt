-- `bits::with_bit` meets its contract: one law answers what the byte's change asks.
-- Assumes nothing.
use borrow.Author.Rules.{rules}
use native.Mathlib.Omega.{arith}
use Rattle.bits.proofs.Storing.{Changed, changed}
use Rattle.bits.proofs.with_bit.Goals as goal

facts : (c : goal.After-weight-w) → Changed c.args.x c.args.k c.args.b c.weight-w.result
facts c = changed c.args.x c.args.k c.args.b c.weight-w.result c.ranges.x.fits (search rules) (search rules) c.weight-w.ensures

pub overflow_add-result : goal.overflow_add-result
overflow_add-result c = omega (arith, facts c)

pub returns : goal.returns
returns c = (facts c).is
