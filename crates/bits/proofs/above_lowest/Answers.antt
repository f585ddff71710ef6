-- `bits::above_lowest` meets its contract: the invariant: the bytes from k up have been read, and the rest is a law.
-- Assumes nothing.
use mathlib.Core.Path.{◌≡◌, sym, ap, ◌∙◌}
use Prim.Native.Nat.{ℕ, ◌+◌, ◌-◌, ◌*◌, ◌≤◌, ◌<◌, ◌^◌}
use native.Mathlib.Omega.{arith}
use borrow.Author.Rules.{rules}
use mathlib.Core.List.{List}
use lib.ListN.{get_or}
use Rattle.bits.specs.declared.ByteOrder.{ByteOrder}
use Rattle.bits.specs.Signal.{value, signal_bit, bit_of}
use Rattle.bits.proofs.Laws.{room, above_lt, top, down8, place_byte}
use Rattle.bits.proofs.above_lowest.Goals as goal

pub loop-k-init : goal.loop-k-init
loop-k-init c = (search rules, search rules, top _ (8 * c.args.n) (8 * c.args.n) (search rules))

-- what has been read leaves room for one byte more
roomy : (d : List ℕ) (o : ByteOrder) (at n k v x : ℕ) → 1 < k → k ≤ n → n ≤ 9 → v ≡ value (signal_bit d o (8 * at) (8 * n)) (8 * k) (8 * n - 8 * k) → x < 256
    → v * 256 + x < 2 ^ 64
roomy d o at n k v x some low most e h = room (8 * n - 8 * k) 8 (rw e (above_lt d o (8 * at) (8 * n) (8 * k) (8 * n - 8 * k))) h (omega arith)

pub overflow_mul-v : goal.overflow_mul-v
overflow_mul-v c =
    let a = c.args in
    let l = c.loop-k in
    omega (arith, roomy a.«data».now a.order a.at a.n l.k l.v 0 (omega arith) (omega arith) (omega arith) l.invariant.2 (omega arith))

pub overflow_add-v : goal.overflow_add-v
overflow_add-v c =
    let a = c.args in
    let l = c.loop-k in
    let b : c.from.result < 256 = omega (arith, c.from.ensures, c.type_inv.data (a.at + c.ranked.result)) in
    record { fits = roomy a.«data».now a.order a.at a.n l.k l.v c.from.result (omega arith) (omega arith) (omega arith) l.invariant.2 b }

pub loop-k-preserved : goal.loop-k-preserved
loop-k-preserved c =
    let a = c.args in
    let l = c.loop-k in
    let r = c.ranked in
    let b : get_or a.«data».now (a.at + r.result) 0 < 256 = omega (arith, c.type_inv.data (a.at + r.result)) in (
      search rules,
      search rules,
      down8 (signal_bit a.«data».now a.order (8 * a.at) (8 * a.n)) l.k a.n (search rules) (search rules) (rw c.from.ensures b) l.invariant.2
          (λ j hj. place_byte a.«data».now a.order a.at a.n (l.k - 1) j (search rules) hj
          ∙ ap (λ (x : ℕ). bit_of x j) (ap (λ (q : ℕ). get_or a.«data».now (a.at + q) 0) (sym r.ensures.0) ∙ sym c.from.ensures)),
    )
