-- `framelog::print` meets its contract: the call took bytes that are at hand, and what it wrote has room.
-- Assumes nothing.
use Rattle.framelog.proofs.Down.{worked}
use Rattle.framelog.proofs.print.Goals as goal

pub overflow_sub-left : goal.overflow_sub-left
overflow_sub-left c = (worked c.args.ended c.args.log c.args.have c.args.input.now c.requires c.work-r.ensures.does).0

pub slice_bounds-write_all-end : goal.slice_bounds-write_all-end
slice_bounds-write_all-end c = (worked c.args.ended c.args.log c.args.have c.args.input.now c.requires c.work-r.ensures.does).1.0

pub slice_bounds-write_all-end-2 : goal.slice_bounds-write_all-end-2
slice_bounds-write_all-end-2 c = (worked c.args.ended c.args.log c.args.have c.args.input.now c.requires c.work-r.ensures.does).1.1
