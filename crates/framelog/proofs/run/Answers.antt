-- `framelog::run` meets its contract: the state at the loop's head was reached by turns from the beginning.
-- Assumes nothing.
use native.Mathlib.Omega.{arith}
use mathlib.Core.Path.{ap}
use mathlib.Core.Bool.{true, false}
use borrow.Author.Tests.{not-false}
use Rattle.can_log.specs.declared.stream.Log.{Log}
use Rattle.framelog.specs.declared.State.{State}
use Rattle.framelog.proofs.Turns.{at_first, next_turn, no_turn_left}
use Rattle.framelog.proofs.run.Goals as goal

-- the state before the first turn
abbrev before : Log → State
before log = record { log = log; have = 0; ended = false; waiting = true; going = true }

pub loop-init : goal.loop-init
loop-init c = at_first (ap before c.start.ensures)

pub loop-preserved : goal.loop-preserved
loop-preserved c = next_turn c.loop.invariant (not-false _ c.if-not-st.false) c.turn-st.ensures

pub returns : goal.returns
returns c = no_turn_left c.loop.invariant (omega arith)
