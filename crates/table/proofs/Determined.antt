-- Two results that a promise of this crate allows are equal, for each public call. Assumes nothing.
use mathlib.Core.Path.{sym, ◌∙◌}
use Rattle.bits.proofs.Promise.{Determines}
use Rattle.table.proofs.SignalIdsEngine.new.Reads as new
use Rattle.table.proofs.SignalIdsEngine.define_signal.Reads as define-signal
use Rattle.table.proofs.SignalIdsEngine.define_signals_batch.Reads as define-signals-batch
use Rattle.table.proofs.SignalIdsEngine.remove_signal.Reads as remove-signal
use Rattle.table.proofs.SignalIdsEngine.signal_count.Reads as signal-count
use Rattle.table.proofs.SignalIdsEngine.next_slot.Reads as next-slot
use Rattle.table.proofs.clamp.Reads as clamp
use Rattle.table.proofs.U8FromTableError.from.Reads as number

pub new_determined : Determines new.Learnt
new_determined κs a r q s t p p' = p ∙ sym p'

pub define_signal_determined : Determines define-signal.Learnt
define_signal_determined κs a r q s t p p' = p ∙ sym p'

pub define_signals_batch_determined : Determines define-signals-batch.Learnt
define_signals_batch_determined κs a r q s t p p' = p ∙ sym p'

pub remove_signal_determined : Determines remove-signal.Learnt
remove_signal_determined κs a r q s t p p' = p ∙ sym p'

pub signal_count_determined : Determines signal-count.Learnt
signal_count_determined κs a r q s t p p' = p ∙ sym p'

pub next_slot_determined : Determines next-slot.Learnt
next_slot_determined κs a r q s t p p' = p ∙ sym p'

pub clamp_determined : Determines clamp.Learnt
clamp_determined κs a r q s t p p' = p ∙ sym p'

pub number_determined : Determines number.Learnt
number_determined κs a r q s t p p' = p ∙ sym p'
