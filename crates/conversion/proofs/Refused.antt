-- Document 02, T-02: what `extract_signal_raw` and `extract_signal` answer, for every slice and definition, the tests in their order. All that is known of an
-- answer is what the promise tells. Assumes nothing.
use Rattle.std.proofs.Common.{◌≡◌, ℕ, ◌+◌, ◌*◌, ◌≤◌, min, Bool, true, false, cond, ◌⊎◌, List, length, sym, refl, ap, ◌∙◌, inl, inr, Bor}
use lib.Ieee.{Float, nan, inf, fin, Format, mul, add}
use lib.Ieee.Scale.{finite}
use contract.Lifetimes.{Lfts}
use Rattle.bits.specs.Signal.{turn, raw_of, sized}
use Rattle.std.specs.Prelude.{Result}
use Rattle.bits.specs.declared.RawError.{RawError}
use Rattle.bits.specs.Answers.{raw_means}
use Rattle.bits.specs.Answers.Answer.{refused}
use Rattle.bits.proofs.Theorems.{is_read, length_refused, outside_refused, refused_by_lem}
use Rattle.conversion.specs.Extract.{measured, unmeasured, extracted_means, finite_only, physical_of, raw_signal, value_of, signal_of}
use Rattle.conversion.specs.declared.SignalDefinition.{SignalDefinition}
use Rattle.conversion.specs.declared.ExtractError.{ExtractError}
use Rattle.conversion.proofs.extract_signal_raw.Reads as extract-signal-raw
use Rattle.conversion.proofs.extract_signal.Reads as extract-signal

-- a NaN makes every product and sum a NaN
times_nan : (f : Format) (x : Float) → mul f x nan ≡ nan
unfolding mul
times_nan f nan = refl
times_nan f (inf s) = refl
times_nan f (fin s m e) = refl

plus_nan : (f : Format) (x : Float) → add f x nan ≡ nan
unfolding add
plus_nan f nan = refl
plus_nan f (inf s) = refl
plus_nan f (fin s m e) = refl

nan_plus : (f : Format) (y : Float) → add f nan y ≡ nan
unfolding add
nan_plus f y = refl

bad_value : (signed : Bool) (L raw : ℕ) (scale offset : Float) → (scale ≡ nan) ⊎ (offset ≡ nan) → physical_of signed L raw scale offset ≡ nan
bad_value signed L raw scale offset (inl e) = rw (e, times_nan, nan_plus)
bad_value signed L raw scale offset (inr e) = rw (e, plus_nan)

-- ---- the raw number
module _ (κs : Lfts 1) («data» : Bor (List ℕ)) (len : ℕ) (d : SignalDefinition) (r : Result ℕ RawError) (out : _) (promised : extract-signal-raw.Learnt κs («data», (len, (d, tt))) r out) where
  -- 1 where the length is not 1 to 64
  pub raw_by_length : ((1 ≤ d.bit_length) × (d.bit_length ≤ 64) → ⊥) → raw_means r ≡ refused 1
  unfolding raw_signal
  raw_by_length bad = promised ∙ length_refused «data».now len d.byte_order d.start_bit d.bit_length bad

  -- 16 where the length is 1 to 64 and a bit is outside
  pub raw_by_outside : 1 ≤ d.bit_length → d.bit_length ≤ 64 → (turn d.byte_order d.start_bit + d.bit_length ≤ 8 * min len (length «data».now) → ⊥)
      → raw_means r ≡ refused 16
  unfolding raw_signal
  raw_by_outside some most far = promised ∙ outside_refused «data».now len d.byte_order d.start_bit d.bit_length some most far

  -- and no other number: never 17
  pub raw_refused_by : (k : ℕ) → raw_means r ≡ refused k → k ≡ cond (sized d.bit_length) 16 1
  unfolding raw_signal
  raw_refused_by k h = refused_by_lem «data».now len d.byte_order d.start_bit d.bit_length k (sym promised ∙ h)

-- ---- the value
module _ (κs : Lfts 1) («data» : Bor (List ℕ)) (len : ℕ) (d : SignalDefinition) (r : Result Float ExtractError) (out : _) (promised : extract-signal.Learnt κs («data», (len, (d, tt))) r out) where
  -- the definition's length, the count of its first bit, how many bytes there are, and the value that its bits make
  abbrev L : ℕ
  L = d.bit_length

  abbrev m : ℕ
  m = turn d.byte_order d.start_bit

  abbrev n : ℕ
  n = min len (length «data».now)

  abbrev physical : Float
  physical = physical_of d.signed L (raw_of «data».now d.byte_order m L) d.scale d.offset

  -- 1 where the length is not 1 to 64, whatever else is wrong
  pub by_length : ((1 ≤ L) × (L ≤ 64) → ⊥) → extracted_means r ≡ unmeasured 1
  unfolding signal_of raw_signal
  by_length bad = promised ∙ ap (value_of d) (length_refused «data».now len d.byte_order d.start_bit L bad)

  -- 16 where the length is 1 to 64 and a bit is outside, whatever scale and offset are
  pub by_outside : 1 ≤ L → L ≤ 64 → (m + L ≤ 8 * n → ⊥) → extracted_means r ≡ unmeasured 16
  unfolding signal_of raw_signal
  by_outside some most far = promised ∙ ap (value_of d) (outside_refused «data».now len d.byte_order d.start_bit L some most far)

  module _ (some : 1 ≤ L) (most : L ≤ 64) (within : m + L ≤ 8 * n) where
    by_bits : extracted_means r ≡ finite_only physical
    unfolding signal_of raw_signal
    by_bits = promised ∙ ap (value_of d) (is_read «data».now len d.byte_order d.start_bit L some most within)

    -- 17 where all bits are there and the value is not finite
    pub by_value : finite physical ≡ false → extracted_means r ≡ unmeasured 17
    by_value h = by_bits ∙ ap (λ (b : Bool). cond b (measured physical) (unmeasured 17)) h

    -- and else the value
    pub has_value : finite physical ≡ true → extracted_means r ≡ measured physical
    has_value h = by_bits ∙ ap (λ (b : Bool). cond b (measured physical) (unmeasured 17)) h

    -- "Scale and offset may be NaN in a direct call": the answer is 17, where document 01 has 1
    pub nan_refused : (d.scale ≡ nan) ⊎ (d.offset ≡ nan) → extracted_means r ≡ unmeasured 17
    nan_refused bad = by_bits ∙ ap finite_only (bad_value d.signed L (raw_of «data».now d.byte_order m L) d.scale d.offset bad)
