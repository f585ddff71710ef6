-- Document 02, T-04: what both models do with their lent counts, as source document 001 has it.
-- Assumes nothing.
use Rattle.std.specs.Prelude.{Bool, ◌&&◌, ◌||◌, cond, List, ℕ, zero, suc, ◌+◌, ◌%◌, min, T, leb, eqb, pos, Result, Ok, Err, length, get_or, set, replicate, Float}
use Rattle.std.specs.Float.{binary32}
use Rattle.std.specs.Float.Ieee.{of_bits, of_int, div, le}
use Rattle.models.specs.declared.Grown.{Grown}
use Rattle.models.specs.declared.Changed.{Changed}
use Rattle.models.specs.declared.Misfit.{Misfit}

-- The size is a number, 1 to so many.
abbrev pub sized : ℕ → ℕ → Bool
sized size most = leb 1 size && leb size most

-- The index of a byte is the byte modulo the size.
abbrev pub index_of : ℕ → ℕ → ℕ
index_of size byte = byte % size

-- One more, by a sum that saturates: the largest u64 stays.
abbrev pub one_more : ℕ → ℕ
one_more n = min (n + 1) 0xFFFF_FFFF_FFFF_FFFF

-- A count that is the largest u64 is full; an observation that leaves one full saturates the model.
abbrev pub is_full : ℕ → Bool
is_full n = eqb n 0xFFFF_FFFF_FFFF_FFFF

-- A count and the total that it is part of, each with one more, and the flag, which is set where one of the two is full then.
abbrev pub both_more : ℕ → ℕ → Bool → Grown
both_more count total flag =
    record { count = one_more count; total = one_more total; saturated = flag || (is_full (one_more count) || is_full (one_more total)) }

-- The counts with one more at place i.
abbrev pub counted : List ℕ → ℕ → List ℕ
counted counts i = set counts i (one_more (get_or counts i 0))

-- Every count 0.
abbrev pub cleared : List ℕ → List ℕ
cleared counts = replicate (length counts) 0

-- The n counts from place i on, added up.
unfoldable pub sum_from : List ℕ → ℕ → ℕ → ℕ
sum_from counts i zero = 0
sum_from counts i (suc n) = get_or counts i 0 + sum_from counts (suc i) n

-- The f32 nearest to the count divided by the f32 nearest to the total, and 0.0 where the total is 0.
unfoldable pub ratio : ℕ → ℕ → Float
ratio count total = cond (eqb total 0) (of_bits binary32 0) (div binary32 (of_int binary32 (pos count)) (of_int binary32 (pos total)))

-- A number between 0 and 1.
abbrev pub IsPart : Float → Type 0
IsPart p = T (le (of_bits binary32 0) p) × T (le p (of_bits binary32 0x3F80_0000))

-- ---- answers: a number of the documents stands for each case

-- The one misfit.
abbrev pub misfit : Misfit
misfit = record {}

-- Its number.
abbrev pub misfit_number : Misfit → ℕ
misfit_number m = 18

-- A call that changes a model is done, or is refused by 18.
abbrev pub answer_means : Result (Unit {0}) Misfit → ℕ
answer_means (Ok _) = 0
answer_means (Err _) = 18

-- What such a call returns that was done, and one that was refused, with the model after it.
abbrev pub done : {M : Type 0} → M → Changed M
done m = record { answer = Ok tt; model = m }

abbrev pub refused : {M : Type 0} → M → Changed M
refused m = record { answer = Err misfit; model = m }

-- A probability, or a refusal by its number.
pub data Scored : Type 0 where
  scored : Float → Scored
  unscored : ℕ → Scored

abbrev pub probability_means : Result Float Misfit → Scored
probability_means (Ok p) = scored p
probability_means (Err _) = unscored 18
