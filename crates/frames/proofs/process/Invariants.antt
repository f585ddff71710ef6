-- `frames::process` meets its contract: the rows before `i` are moved and reported (`Moving`); each turn is a lemma of Moves.
-- Assumes nothing.
use Rattle.frames.proofs.Moves.{Moving}
use Rattle.frames.proofs.process.Given as goal

abbrev pub invariant-loop-i : goal.invariant-loop-i
invariant-loop-i l =
    Moving (record { engine = l.initial.done.engine; n = l.n; key = l.key; payload = l.payload }) l.multiplexor l.done.engine l.done.result l.i
