-- `models::index` meets its contract.
-- Assumes nothing.
use mathlib.Core.Path.{sym, ◌∙◌}
use native.Mathlib.Omega.{arith}
use native.Mathlib.Nat.{lt_of_le_of_lt, le_of_eq, mod-lt}
use Rattle.models.proofs.Places.{masked, below_256}
use Rattle.models.proofs.index.Goals as goal

pub returns-then-is_power_of_two : goal.returns-then-is_power_of_two
returns-then-is_power_of_two c =
    let a = c.args in
    let is = c.from.ensures ∙ masked a.size a.value (omega arith) (omega arith) (sym c.is_power_of_two.ensures ∙ c.if-is_power_of_two.true) in
    (is, lt_of_le_of_lt (le_of_eq is) (mod-lt a.value (omega arith)))

pub overflow_cast-size-2 : goal.overflow_cast-size-2
overflow_cast-size-2 c = record { fits = below_256 c.args.size (omega arith) (sym c.is_power_of_two.ensures ∙ c.if-is_power_of_two.false) }

pub returns : goal.returns
returns c = (c.from-2.ensures, lt_of_le_of_lt (le_of_eq c.from-2.ensures) (mod-lt c.args.value (omega arith)))
