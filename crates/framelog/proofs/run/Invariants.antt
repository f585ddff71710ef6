-- `framelog::run` meets its contract: the state at the loop's head was reached by turns from the beginning.
-- Assumes nothing.
use Rattle.framelog.proofs.Turns.{Reached}
use Rattle.framelog.proofs.run.Given as goal

abbrev pub invariant-loop : goal.invariant-loop
invariant-loop l = Reached l.initial.input l.initial.out l.input l.out l.st l.counter
