-- `models::Seen::mark` meets its contract.
-- Assumes nothing.
use mathlib.Core.Path.{sym, ap₂, ◌∙◌}
use Prim.Native.Nat.{ℕ, ◌+◌, ◌%◌}
use native.Mathlib.Omega.{arith}
use native.Mathlib.Nat.{le_of_eq, lt_of_le_of_lt}
use borrow.Author.Rules.{rules}
use Rattle.models.specs.Histogram.{word_of}
use Rattle.models.proofs.Marks.{marked_before, room, marks}
use Rattle.models.proofs.Seen.mark.Goals as goal

pub returns-then-has : goal.returns-then-has
returns-then-has c = sym (marked_before c.args.self c.args.value (sym c.has.ensures ∙ c.if-has.true))

pub overflow_add-word : goal.overflow_add-word
overflow_add-word c =
    let a = c.args in
    let sum = ap₂ (λ (x y : ℕ). x + y) c.word.ensures c.bit.ensures in
    let e = c.word.ensures in
    record { fits = lt_of_le_of_lt (le_of_eq sum) (room (word_of a.self a.value) (a.value % 64) (lt_of_le_of_lt (le_of_eq (sym e)) (search rules)) (omega arith) (sym c.has.ensures ∙ c.if-has.false)) }

pub returns-in-0-to-63 : goal.returns-in-0-to-63
returns-in-0-to-63 c = marks c.args.self c.args.value (c.word.result + c.bit.result) 0 (sym c.has.ensures ∙ c.if-has.false) (cc) (omega arith)

pub returns-in-64-to-127 : goal.returns-in-64-to-127
returns-in-64-to-127 c = marks c.args.self c.args.value (c.word.result + c.bit.result) 1 (sym c.has.ensures ∙ c.if-has.false) (cc) (omega arith)

pub returns-in-128-to-191 : goal.returns-in-128-to-191
returns-in-128-to-191 c = marks c.args.self c.args.value (c.word.result + c.bit.result) 2 (sym c.has.ensures ∙ c.if-has.false) (cc) (omega arith)

pub returns-in_default : goal.returns-in_default
returns-in_default c = marks c.args.self c.args.value (c.word.result + c.bit.result) 3 (sym c.has.ensures ∙ c.if-has.false) (cc) (omega arith)
