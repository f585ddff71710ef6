-- `bits::eight_bytes` meets its contract: for Motorola the bytes of the Intel number, in the other order.
-- Assumes nothing.
use mathlib.Core.Path.{refl, ap, ◌∙◌}
use Prim.Native.Nat.{ℕ, ◌<◌, ◌*◌, ◌/◌, ◌%◌, ◌^◌}
use native.Mathlib.Omega.{arith}
use lib.ListN.{get_or}
use Rattle.bits.specs.Signal.{rank, signal_byte}
use Rattle.bits.specs.declared.ByteOrder.TheVariants.{LittleEndian, BigEndian}
use Rattle.bits.proofs.Gathering.{byte_within, bytes_same, eight_bytes}
use Rattle.bits.proofs.Theorems.{bytes_are_bits}
use Rattle.bits.proofs.eight_bytes.Goals as goal

pub returns-in-BigEndian : goal.returns-in-BigEndian
returns-in-BigEndian c =
    let a = c.args in
    let d = a.«data».now in
    let w = c.word-w in
    let small : (j : ℕ) → get_or d j 0 < 256 = λ j. (c.type_inv.data j).fits in
    rw c.in-BigEndian.is
    (eight_bytes (λ k. w.result / 2 ^ (8 * rank BigEndian 8 k) % 256) (omega (arith, c.swap_bytes.ensures)) refl refl refl refl refl refl refl refl
    ∙ bytes_same (λ k. w.result / 2 ^ (8 * rank BigEndian 8 k) % 256) (signal_byte d BigEndian a.at 8) 0 8
    (λ j l. ap (λ (x : ℕ). x / 2 ^ (8 * rank BigEndian 8 j) % 256) w.ensures ∙ byte_within d LittleEndian a.at 8 (rank BigEndian 8 j) small (omega arith))
    ∙ bytes_are_bits d BigEndian a.at 8 small)
