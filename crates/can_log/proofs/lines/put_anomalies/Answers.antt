-- `can_log::lines::put_anomalies` meets its contract.
-- Assumes nothing.
use native.Mathlib.Omega.{arith}
use lib.ListN.{take, length-take}
use Rattle.can_log.proofs.Texts.{then, named, next_line, lines-length}
use Rattle.can_log.proofs.lines.put_anomalies.Goals as goal

pub write-end-requires : goal.write-end-requires
write-end-requires c =
    let l = c.args.list.now in
    let i = c.loop-x.x-index in
    omega (arith, c.anomaly_line.ensures.len, c.loop-x.invariant.1.stop, lines-length c.args.n (take i l), length-take i l, c.requires)

pub loop-x-preserved : goal.loop-x-preserved
loop-x-preserved c =
    let l = c.args.list.now in
    (omega arith, named (next_line c.args.n l _ c.loop-x.x-index c.loop-x-test.true) (then c.loop-x.invariant.1 (named c.anomaly_line.ensures.text c.write-end.ensures)))
