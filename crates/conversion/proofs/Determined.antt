-- Two results that a promise of this crate allows are equal, for each public call. Assumes nothing.
use Rattle.std.proofs.Common.{◌≡◌, cond, eqb, sym, refl, ap, ◌∙◌}
use Rattle.bits.proofs.Promise.{Determines}
use Rattle.bits.proofs.Theorems.{raw_settled}
use Rattle.conversion.specs.Extract.{Measured, measured, unmeasured, extracted_means}
use Rattle.std.specs.Prelude.{Result, Ok, Err, Float}
use Rattle.conversion.specs.declared.ExtractError.{ExtractError}
use Rattle.conversion.specs.declared.ExtractError.TheVariants.{BadLength, Outside, NotFinite}
use Rattle.conversion.proofs.is_finite.Reads as is_finite
use Rattle.conversion.proofs.f32_of_bits.Reads as f32-of-bits
use Rattle.conversion.proofs.bits_of_f32.Reads as bits-of-f32
use Rattle.conversion.proofs.nearest_u64.Reads as nearest-u64
use Rattle.conversion.proofs.nearest_i64.Reads as nearest-i64
use Rattle.conversion.proofs.SignalDefinitionDefault.default.Reads as default
use Rattle.conversion.proofs.extract_signal_raw.Reads as extract-signal-raw
use Rattle.conversion.proofs.extract_signal.Reads as extract-signal
use Rattle.conversion.proofs.ExtractErrorFromRawError.from.Reads as extract-error-from
use Rattle.conversion.proofs.U8FromExtractError.from.Reads as number

-- the meaning of an answer tells all answers apart
abbrev extracted_for : Measured → Result Float ExtractError
extracted_for (measured v) = Ok v
extracted_for (unmeasured k) = Err (cond (eqb k 1) BadLength (cond (eqb k 16) Outside NotFinite))

same_extracted : (a : Result Float ExtractError) → extracted_for (extracted_means a) ≡ a
same_extracted (Ok v) = refl
same_extracted (Err BadLength) = refl
same_extracted (Err Outside) = refl
same_extracted (Err NotFinite) = refl

pub extracted_settled : (a b : Result Float ExtractError) → extracted_means a ≡ extracted_means b → a ≡ b
extracted_settled a b h = sym (same_extracted a) ∙ ap extracted_for h ∙ same_extracted b

pub is_finite_determined : Determines is_finite.Learnt
is_finite_determined κs a r q s t p p' = p ∙ sym p'

pub f32_of_bits_determined : Determines f32-of-bits.Learnt
f32_of_bits_determined κs a r q s t p p' = p ∙ sym p'

pub bits_of_f32_determined : Determines bits-of-f32.Learnt
bits_of_f32_determined κs a r q s t p p' = p ∙ sym p'

pub nearest_u64_determined : Determines nearest-u64.Learnt
nearest_u64_determined κs a r q s t p p' = p ∙ sym p'

pub nearest_i64_determined : Determines nearest-i64.Learnt
nearest_i64_determined κs a r q s t p p' = p ∙ sym p'

pub default_determined : Determines default.Learnt
default_determined κs a r q s t p p' = p ∙ sym p'

pub extract_signal_raw_determined : Determines extract-signal-raw.Learnt
extract_signal_raw_determined κs a r q s t p p' = raw_settled r q (p ∙ sym p')

pub extract_signal_determined : Determines extract-signal.Learnt
extract_signal_determined κs a r q s t p p' = extracted_settled r q (p ∙ sym p')

pub extract_error_from_determined : Determines extract-error-from.Learnt
extract_error_from_determined κs a r q s t p p' = p ∙ sym p'

pub number_determined : Determines number.Learnt
number_determined κs a r q s t p p' = p ∙ sym p'
