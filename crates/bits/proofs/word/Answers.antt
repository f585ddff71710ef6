-- `bits::word` meets its contract: eight bytes as one number are the raw number of their 64 bits.
-- Assumes nothing.
use native.Mathlib.Omega.{arith}
use mathlib.Core.Path.{◌≡◌, refl, sym, ap, ◌∙◌}
use Prim.Native.Nat.{ℕ, ◌+◌, ◌*◌}
use native.Mathlib.Nat.{add-zero}
use lib.ListN.{get_or}
use Rattle.bits.specs.Signal.{signal_byte}
use Rattle.bits.specs.declared.ByteOrder.TheVariants.{LittleEndian}
use Rattle.bits.proofs.Gathering.{eight_bytes}
use Rattle.bits.proofs.Theorems.{bytes_are_bits}
use Rattle.bits.proofs.word.Goals as goal

pub returns : goal.returns
returns c =
    let a = c.args in
    let d = a.«data».now in
    let sum : c.from_le_bytes.result ≡ get_or d a.at 0 + 256 * (get_or d (a.at + 1) 0 + 256 * (get_or d (a.at + 2) 0 + 256 * (get_or d (a.at + 3) 0 + 256 * (get_or d (a.at + 4) 0 + 256 * (get_or d (a.at + 5) 0 + 256 * (get_or d (a.at + 6) 0 + 256 * get_or d (a.at + 7) 0)))))) = omega (arith, c.from_le_bytes.ensures) in
    eight_bytes (signal_byte d LittleEndian a.at 8) sum (ap (λ (k : ℕ). get_or d k 0) (sym (add-zero a.at))) refl refl refl refl refl refl refl
    ∙ bytes_are_bits d LittleEndian a.at 8 (λ j. (c.type_inv.data j).fits)
