-- What is known of a size and of lent lengths that fit it. Assumes nothing.
use mathlib.Core.Path.{◌≡◌}
use mathlib.Core.Bool.{true, ◌&&◌}
use Prim.Native.Nat.{ℕ, ◌*◌, ◌≤◌}
use borrow.Author.Tests.{leb-true, eqb-true}
use Rattle.std.proofs.lemmas.Bool.{and_parts}
use lib.Dec.{leb, eqb}
use Rattle.models.specs.Counts.{sized}
use Rattle.models.specs.Histogram.{bins_fit}
use Rattle.models.specs.Markov.{states_fit}

pub record Bins (size counts : ℕ) : Type 0 where
  pub some : 1 ≤ size
  pub most : size ≤ 256
  pub exact : counts ≡ size

pub bins : (size counts : ℕ) → bins_fit size counts ≡ true → Bins size counts
unfolding bins_fit
bins size counts h =
    let (fits, exact) = and_parts (sized size 256) (eqb counts size) h in
    let (some, most) = and_parts (leb 1 size) (leb size 256) fits in
    record { some = leb-true 1 size some; most = leb-true size 256 most; exact = eqb-true counts size exact }

pub record States (size cells rows : ℕ) : Type 0 where
  pub some : 1 ≤ size
  pub most : size ≤ 64
  pub square : cells ≡ size * size
  pub exact : rows ≡ size

pub states : (size cells rows : ℕ) → states_fit size cells rows ≡ true → States size cells rows
unfolding states_fit
states size cells rows h =
    let (fits, lengths) = and_parts (sized size 64) (eqb cells (size * size) && eqb rows size) h in
    let (some, most) = and_parts (leb 1 size) (leb size 64) fits in
    let (square, exact) = and_parts (eqb cells (size * size)) (eqb rows size) lengths in
    record { some = leb-true 1 size some; most = leb-true size 64 most; square = eqb-true cells (size * size) square; exact = eqb-true rows size exact }
