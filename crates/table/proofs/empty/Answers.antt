-- `table::empty` meets its contract. Assumes nothing.
use Rattle.table.proofs.Columns.{empty_is}
use Rattle.table.proofs.empty.Goals as goal

pub returns : goal.returns
returns c = empty_is c.args.fresh c.blank_signal.result c.blank_signal.ensures
