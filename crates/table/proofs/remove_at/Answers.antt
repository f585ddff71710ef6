-- `table::remove_at` meets its contract. Assumes nothing.
use Rattle.std.proofs.Common.{◌∙◌, slice_set, arith}
use Rattle.std.proofs.Math.ListN.{length-set}
use Rattle.std.proofs.lemmas.Slice.{put_mid-rotated}
use Rattle.table.proofs.Laws.{remove-set}
use Rattle.table.proofs.remove_at.Goals as goal

pub returns : goal.returns
returns g c =
    let p = c.args.p in
    let xs = c.args.column.now in
    let last = c.args.last in
    put_mid-rotated p _ (slice_set xs p last) _ last (omega (arith, length-set xs p last)) (omega arith) c.rotate_left.ensures.after
    ∙ remove-set xs p last c.requires
