-- `can_log::lines::Line::put_decimal` meets its contract: the digits that the library writes are the definition's, at most ten.
-- Assumes nothing.
use mathlib.Core.Path.{◌∙◌, ap}
use mathlib.Core.List.{List, ◌++◌}
use native.Mathlib.Omega.{arith}
use Prim.Native.Nat.{ℕ}
use lib.ListN.{length}
use Rattle.can_log.specs.Lines.{decimal}
use Rattle.can_log.proofs.Texts.{dec-length, fewest_dec}
use Rattle.can_log.proofs.lines.Line.put_decimal.Goals as goal

pub put-requires : goal.put-requires
put-requires c =
    let e = c.decimal-k.ensures.digits ∙ fewest_dec c.from.result c.decimal-k.result (omega arith) c.decimal-k.ensures.len ∙ ap decimal c.from.ensures in
    omega (arith, ap length e, dec-length 10 c.args.n)

pub returns : goal.returns
returns c =
    let e = c.decimal-k.ensures.digits ∙ fewest_dec c.from.result c.decimal-k.result (omega arith) c.decimal-k.ensures.len ∙ ap decimal c.from.ensures in
    record { text = c.put.ensures.text ∙ ap (λ (t : List ℕ). c.args.self.now ++ t) e; len = omega (arith, c.put.ensures.len, ap length e, dec-length 10 c.args.n) }
