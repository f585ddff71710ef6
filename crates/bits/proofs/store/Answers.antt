-- `bits::store` meets its contract: the invariant: the bits below i are stored, every other is as it was; all are bytes.
-- Assumes nothing.
use borrow.Author.Rules.{rules}
use mathlib.Core.Path.{◌≡◌, refl, ap, ◌∙◌}
use Prim.Native.Nat.{ℕ, ◌+◌, ◌*◌, ◌<◌}
use native.Mathlib.Omega.{arith}
use mathlib.Core.List.{List}
use lib.ListN.{length}
use Rattle.bits.specs.declared.ByteOrder.{ByteOrder}
use Rattle.bits.specs.Signal.{bit_at, turn, rank, place, value, new_bit, tab, stored}
use Rattle.bits.proofs.Laws.{place_in}
use Rattle.bits.proofs.Storing.{store_step, bytes_ext}
use Rattle.bits.proofs.store.Goals as goal

pub loop-i-init : goal.loop-i-init
unfolding new_bit
loop-i-init c = (search rules, refl, λ j. (c.slice_known-1.given j).fits, λ q. refl)

-- the bit number that was worked out is the place of bit i
at : (o : ByteOrder) (m len i r p : ℕ) → r ≡ rank o len i → p ≡ turn o (m + r) → p ≡ place o m len i
at o m len i r p er ep = ep ∙ ap (λ (x : ℕ). turn o (m + x)) er

pub loop-i-preserved : goal.loop-i-preserved
loop-i-preserved c =
    let a = c.args in
    let l = c.loop-i in
    let there = at a.order a.m a.len l.i c.ranked.result c.turned.result c.ranked.ensures.0 c.turned.ensures.0 in
    let within : c.turned.result < 8 * length l.«data» = rw there (place_in a.order a.m a.len (length l.«data») l.i (omega arith) (omega arith)) in
    let u = c.put in (
      search rules,
      omega (arith, u.auto.«data»),
      λ j. (c.slice_known-in-loop-i-1.given j).fits,
      λ q. ap (λ (d : List ℕ). bit_at d q) u.ensures
          ∙ store_step a.«data».now l.«data» a.order a.m a.len a.raw l.i c.bit_of.result c.turned.result
          l.invariant.3 within there c.bit_of.ensures q,
    )

pub returns : goal.returns
unfolding stored
returns c =
    let a = c.args in
    let l = c.loop-i in
    let e : l.i ≡ a.len = omega arith in
    bytes_ext l.«data» (new_bit a.«data».now a.order a.m a.len a.raw a.len) l.invariant.2 (rw e at l.invariant.3)
    ∙ ap (λ (n : ℕ). tab (λ j. value (new_bit a.«data».now a.order a.m a.len a.raw a.len) (8 * j) 8) 0 n) l.invariant.1
