-- `bits::cut` meets its contract: what is shifted out is what is cut off.
-- Assumes nothing.
use borrow.Author.Rules.{rules}
use Rattle.bits.proofs.Gathering.{shifted}
use Rattle.bits.proofs.cut.Goals as goal

pub returns : goal.returns
returns c = shifted c.args.w c.args.below c.args.len (search rules)
