-- `models::count_one` meets its contract.
-- Assumes nothing.
use borrow.Author.Tests.{lt-leb}
use Rattle.std.proofs.lemmas.Bool.{or_from}
use Rattle.models.proofs.Parts.{both_far}
use Rattle.models.proofs.count_one.Goals as goal

pub returns : goal.returns
returns c = both_far c.args.count c.args.total c.args.saturated (or_from _ _ (lt-leb _ _ c.if-count-ge-HALF.false) (lt-leb _ _ c.if-total-ge-HALF.false))
