-- Two results that a promise of this crate allows are equal, for each exported call: what is returned, and the detector that was lent. Assumes nothing.
use mathlib.Core.Path.{refl, sym, ◌∙◌}
use Rattle.bits.proofs.Promise.{Determines, DeterminesLent}
use Rattle.host.proofs.detector_update.Reads as detector-update
use Rattle.host.proofs.detector_set_freeze_duration.Reads as detector-set-freeze-duration
use Rattle.host.proofs.detector_recalibrate.Reads as detector-recalibrate
use Rattle.host.proofs.detector_new.Reads as detector-new
use Rattle.host.proofs.detector_with_options.Reads as detector-with-options
use Rattle.host.proofs.SampleAnswerFromVerdict.from.Reads as sample-answer-from

pub detector_new_determined : Determines detector-new.Learnt
detector_new_determined κs a r q s t p p' = p ∙ sym p'

pub detector_with_options_determined : Determines detector-with-options.Learnt
detector_with_options_determined κs a r q s t p p' = p ∙ sym p'

pub detector_update_determined : DeterminesLent (λ κs s. s.0.now) detector-update.Learnt
detector_update_determined κs a r q s t p p' = (p.1 ∙ sym p'.1, p.0 ∙ sym p'.0)

pub detector_set_freeze_duration_determined : DeterminesLent (λ κs s. s.0.now) detector-set-freeze-duration.Learnt
detector_set_freeze_duration_determined κs a r q s t p p' = (p.1 ∙ sym p'.1, p.0 ∙ sym p'.0)

pub detector_recalibrate_determined : DeterminesLent (λ κs s. s.0.now) detector-recalibrate.Learnt
detector_recalibrate_determined κs a r q s t p p' = (refl, p ∙ sym p')

pub sample_answer_from_determined : Determines sample-answer-from.Learnt
sample_answer_from_determined κs a r q s t p p' = p ∙ sym p'
