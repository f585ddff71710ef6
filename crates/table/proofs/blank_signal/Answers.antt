-- `table::blank_signal` meets its contract. Assumes nothing.
use mathlib.Core.Path.{ap}
use Rattle.std.specs.Float.{binary32}
use Rattle.std.specs.Float.Ieee.{of_bits}
use Rattle.conversion.specs.declared.SignalDefinition.{SignalDefinition}
use Rattle.table.specs.declared.Signal.{Signal}
use Rattle.table.specs.Table.{blank_signal}
use Rattle.table.proofs.blank_signal.Goals as goal

abbrev blank_of : SignalDefinition → Signal
blank_of d = record { slot = 0; definition = record d { bit_length = 1; scale = of_bits binary32 0 } }

pub returns : goal.returns
unfolding blank_signal
returns c = ap blank_of c.default.ensures
