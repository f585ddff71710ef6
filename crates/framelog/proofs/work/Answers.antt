-- `framelog::work` meets its contract: the call takes bytes that are at hand, and those behind them move to the front.
-- Assumes nothing.
use mathlib.Core.Path.{◌∙◌}
use native.Mathlib.Omega.{arith}
use Rattle.framelog.proofs.Down.{worked, moved_down}
use Rattle.framelog.proofs.work.Goals as goal

pub copy_within-requires-clause-start_le_end : goal.copy_within-requires-clause-start_le_end
copy_within-requires-clause-start_le_end c =
    let there = (worked c.args.ended c.args.log c.args.have c.args.input.now c.requires c.advance-r.ensures).0 in
    omega (arith, there)

pub returns-clause-input_after : goal.returns-clause-input_after
returns-clause-input_after c =
    c.copy_within.ensures.after
    ∙ moved_down c.args.input.now c.args.have c.advance-r.result.used (worked c.args.ended c.args.log c.args.have c.args.input.now c.requires c.advance-r.ensures).0 c.requires
