-- `can_log::decode::frame` meets its contract.
-- Assumes nothing.
use mathlib.Core.Path.{sym, ap, ◌∙◌}
use mathlib.Core.Bool.{false}
use Prim.Native.Nat.{ℕ, ◌%◌}
use native.Mathlib.Omega.{arith}
use lib.Dec.{eqb}
use lib.ListN.{get_or}
use Rattle.can_log.specs.Records.{Front, flag}
use Rattle.can_log.proofs.Front.{undefined_flag, long_frame, defined-flags}
use Rattle.can_log.proofs.decode.frame.Goals as goal

pub returns-then-flags-ge4 : goal.returns-then-flags-ge4
returns-then-flags-ge4 c = sym (undefined_flag c.args.s.now (omega (arith, c.if-flags-ge4.true)))

pub returns-then-length-gt15 : goal.returns-then-length-gt15
returns-then-length-gt15 c = sym (long_frame c.args.s.now (omega (arith, c.if-flags-ge4.false)) (omega (arith, c.if-length-gt15.true)))

pub returns : goal.returns
returns c =
    let s = c.args.s.now in
    ap (λ (i : ℕ). Front.frame (record { id = i; is_extended = eqb (get_or s 2 0 % 2) 1; is_remote = flag 2 (get_or s 2 0); is_fd = false; length = get_or s 3 0 })) c.u32_at.ensures
    ∙ sym (defined-flags s (omega (arith, c.if-flags-ge4.false)) (omega (arith, c.if-length-gt15.false)))
