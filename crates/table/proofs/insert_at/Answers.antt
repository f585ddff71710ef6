-- `table::insert_at` meets its contract. Assumes nothing.
use Rattle.table.proofs.Laws.{rotated_in}
use Rattle.table.proofs.insert_at.Goals as goal

pub returns : goal.returns
returns g c = rotated_in c.args.p c.args.one c.args.column.now c.rotate_right.new.self c.requires c.rotate_right.ensures.after
