-- `can_log::lines::Line::write` meets its contract: a copy into the middle of a buffer.
-- Assumes nothing.
use mathlib.Core.Path.{◌≡◌, ◌∙◌, sym, ap}
use native.Mathlib.Omega.{arith}
use lib.ListN.{length}
use lib.Seq.{length-take-le}
use Rattle.can_log.proofs.Texts.{copied}
use Rattle.can_log.proofs.lines.Line.write.Goals as goal

pub returns : goal.returns
returns c =
    let i = c.self.inside in
    let long : i.len ≡ length c.args.self.now = sym (length-take-le i.len i.bytes (omega arith)) ∙ ap length c.self.view_is in
    copied c.args.out.now c.args.at i.len _ long (omega arith) (grind (arith, c.copy_from_slice.ensures.after, c.self.view_is)) (omega arith)
