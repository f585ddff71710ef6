-- `table::refusal` meets its contract: the length is tested first. Assumes nothing.
use Rattle.std.proofs.Common.{◌≡◌, false, sym, ◌∙◌}
use Rattle.table.specs.Table.{length_ok}
use Rattle.table.proofs.refusal.Goals as goal

pub returns-then-not-length_ok : goal.returns-then-not-length_ok
returns-then-not-length_ok c = let too_long : length_ok c.args.d ≡ false = sym c.length_ok.ensures ∙ c.if-not-length_ok.true in rw too_long
