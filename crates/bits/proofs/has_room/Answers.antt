-- `bits::has_room` meets its contract: a shift by the length leaves nothing.
-- Assumes nothing.
use mathlib.Core.Path.{sym, ◌∙◌}
use native.Mathlib.Nat.{lt_of_lt_of_le}
use borrow.Author.Tests.{lt-ltb}
use lib.Pow.{pow_mono}
use Rattle.bits.proofs.Storing.{room_test}
use Rattle.bits.proofs.has_room.Goals as goal

pub returns-then-len-gt63 : goal.returns-then-len-gt63
returns-then-len-gt63 c = lt-ltb _ _ c.if-len-gt63.true ∙ sym (lt-ltb _ _ (lt_of_lt_of_le c.ranges.x.fits (pow_mono c.if-len-gt63.true)))

pub returns-else-len-gt63 : goal.returns-else-len-gt63
returns-else-len-gt63 c = room_test c.args.x c.args.len
