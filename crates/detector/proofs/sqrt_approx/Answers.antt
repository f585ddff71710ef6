-- `detector::sqrt_approx` meets its contract. Past the two tests x is above zero and no NaN, so its pattern has the sign bit clear; half of it and the constant neither wrap nor are a NaN pattern. Assumes nothing.
use mathlib.Core.Path.{sym, ap, ◌∙◌, subst}
use Prim.Native.Nat.{◌<◌}
use lib.Dec.{T}
use lib.Ieee.{Float, binary32, to_bits}
use Rattle.detector.proofs.Floats.{is_nan_lem, sign_clear, seed_fits, seed_no_nan}
use Rattle.detector.proofs.Sqrt.{sqrt_of_nan}
use Rattle.detector.specs.Ewma.{newton, sqrt_approx}
use Rattle.detector.proofs.sqrt_approx.Goals as goal

-- past both tests x is above zero and no NaN, so its pattern has the sign's bit clear
low : (c : goal.Else-is_nan) → to_bits binary32 c.args.x < 2147483648
low c = sign_clear c.args.x (subst T (sym c.well_formed.0.1) tt) c.if-is_nan.ensures.not_nan c.if-x.false

pub returns-then-x : goal.returns-then-x
unfolding sqrt_approx
returns-then-x c = rw c.if-x.true

pub returns-then-is_nan : goal.returns-then-is_nan
returns-then-is_nan c = sqrt_of_nan c.args.x (is_nan_lem c.args.x c.if-is_nan.ensures.value)

pub overflow_add-seed : goal.overflow_add-seed
overflow_add-seed c = record { fits = seed_fits (to_bits binary32 c.args.x) (low c) }

pub float_from_bits-seed : goal.float_from_bits-seed
float_from_bits-seed c = seed_no_nan (to_bits binary32 c.args.x) (low c)

pub returns : goal.returns
unfolding sqrt_approx
returns c = rw c.if-x.false (c.refined.ensures ∙ ap (λ (guess : Float). newton c.args.x guess) c.refined-first.ensures)
