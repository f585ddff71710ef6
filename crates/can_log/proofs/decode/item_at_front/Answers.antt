-- `can_log::decode::item_at_front` meets its contract.
-- Assumes nothing.
use mathlib.Core.Path.{◌≡◌, ◌∙◌, sym}
use mathlib.Core.Bool.{Bool, false}
use Prim.Native.Nat.{ℕ}
use native.Mathlib.Omega.{arith}
use borrow.Author.Tests.{eq-eqb, ne_eqb, eqb-true, eqb-false}
use lib.Dec.{eqb}
use lib.ListN.{length}
use Rattle.can_log.specs.Records.{item_of}
use Rattle.can_log.proofs.Front as front
use Rattle.can_log.proofs.Front.{is_known}
use Rattle.can_log.proofs.decode.item_at_front.Goals as goal

-- the bytes are some
some : {n : ℕ} {b : Bool} → b ≡ eqb n 0 → b ≡ false → n ≡ 0 → ⊥
some {n} p q = eqb-false n 0 (sym p ∙ q)

pub returns-then-is_empty : goal.returns-then-is_empty
unfolding item_of
returns-then-is_empty c = simp (eq-eqb _ _ (eqb-true (length c.args.s.now) 0 (sym c.is_empty.ensures ∙ c.if-is_empty.true)))

pub returns-then-count-eq4294967295 : goal.returns-then-count-eq4294967295
unfolding item_of
returns-then-count-eq4294967295 c = simp (ne_eqb _ _ (some c.is_empty.ensures c.if-is_empty.false), eq-eqb _ _ c.if-count-eq4294967295.true)

pub returns-then-s-eq1 : goal.returns-then-s-eq1
unfolding item_of
returns-then-s-eq1 c = simp (ne_eqb _ _ (some c.is_empty.ensures c.if-is_empty.false), ne_eqb _ _ c.if-count-eq4294967295.false, eq-eqb _ _ c.if-s-eq1.true)

pub returns-in_err-k : goal.returns-in_err-k
returns-in_err-k c =
    let why = front.unnamed _ _ (some c.is_empty.ensures c.if-is_empty.false) c.if-count-eq4294967295.false c.if-s-eq1.false c.in_err-k.ensures in
    grind (arith, why)

pub returns-then-s-n : goal.returns-then-s-n
returns-then-s-n c =
    front.cut _ _ (some c.is_empty.ensures c.if-is_empty.false) c.if-count-eq4294967295.false c.if-s-eq1.false _ _ (is_known _ c.in_ok-k.ensures) c.size-n.ensures c.if-s-n.true

pub returns-then-is_misplaced : goal.returns-then-is_misplaced
returns-then-is_misplaced c =
    front.misplaced_here _ _ (some c.is_empty.ensures c.if-is_empty.false) c.if-count-eq4294967295.false c.if-s-eq1.false _ _ (is_known _ c.in_ok-k.ensures) c.size-n.ensures _
    c.is_misplaced.ensures c.if-is_misplaced.true c.if-s-n.false

pub returns-in_err-record_of : goal.returns-in_err-record_of
returns-in_err-record_of c =
    let whole =
    front.whole _ _ (some c.is_empty.ensures c.if-is_empty.false) c.if-count-eq4294967295.false c.if-s-eq1.false _ _ (is_known _ c.in_ok-k.ensures) c.size-n.ensures _
    c.is_misplaced.ensures c.if-is_misplaced.false c.if-s-n.false in
    let why = c.in_err-record_of.ensures ∙ whole in
    grind (arith, why)

pub returns : goal.returns
returns c =
    c.in_ok-record_of.ensures
    ∙ front.whole _ _ (some c.is_empty.ensures c.if-is_empty.false) c.if-count-eq4294967295.false c.if-s-eq1.false _ _ (is_known _ c.in_ok-k.ensures) c.size-n.ensures _
    c.is_misplaced.ensures c.if-is_misplaced.false c.if-s-n.false
