-- The nearest f32 to a whole number, ties to even, over whole numbers alone: document 01, "Physical value", fourth sentence.
-- The promises say `of_int binary32`, the kit's account of IEEE 754; proofs/Near.antt proves that it is this, and that this is nearest.
-- Assumes nothing.
use Rattle.std.specs.Prelude.{ℕ, suc, ◌+◌, ◌-◌, ◌*◌, ◌^◌, Bool, true, false, T, ℤ, pos, negsuc, Float}
use Rattle.std.specs.Float.{binary32}
use Rattle.std.specs.Float.Ieee.{size, fits}
use Rattle.std.specs.Float.Ieee.Exact.{HasValue}
use Rattle.std.specs.Float.Ieee.Nearest.{closest}

-- n cut to 24 binary digits: with k digits more than 24 it is the nearest multiple of 2 ^ k, at a tie the even one.
abbrev pub to24 : ℕ → ℕ
to24 n = closest n (2 ^ (size n - 24)) * 2 ^ (size n - 24)

-- How far two numbers are apart.
abbrev pub apart : ℕ → ℕ → ℕ
apart a b = (a - b) + (b - a)

-- How far a is from b, or from -b where the sign is true.
abbrev pub apart_from : Bool → ℕ → ℕ → ℕ
apart_from false a b = apart a b
apart_from true a b = a + b

-- The f32 x is the whole number z cut to 24 digits.
abbrev pub IsNearest : ℤ → Float → Type 0
IsNearest (pos n) x = T (fits binary32 x) × HasValue x false (to24 n) 1
IsNearest (negsuc n) x = T (fits binary32 x) × HasValue x true (to24 (suc n)) 1
