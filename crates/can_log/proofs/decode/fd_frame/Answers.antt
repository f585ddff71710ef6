-- `can_log::decode::fd_frame` meets its contract.
-- Assumes nothing.
use mathlib.Core.Path.{sym, ap, ◌∙◌}
use mathlib.Core.Bool.{true, false}
use Prim.Native.Nat.{ℕ}
use native.Mathlib.Omega.{arith}
use lib.Dec.{eqb}
use lib.ListN.{get_or}
use Rattle.can_log.specs.Records.{Front}
use Rattle.can_log.proofs.Front.{fd_undefined_flag, fd_unlisted, fd_sound}
use Rattle.can_log.proofs.decode.fd_frame.Goals as goal

pub returns-then-flags-ge2 : goal.returns-then-flags-ge2
returns-then-flags-ge2 c = sym (fd_undefined_flag c.args.s.now (omega (arith, c.if-flags-ge2.true)))

pub returns-then-not-is_fd_length : goal.returns-then-not-is_fd_length
returns-then-not-is_fd_length c = sym (fd_unlisted c.args.s.now (omega (arith, c.if-flags-ge2.false)) ((sym c.is_fd_length.ensures ∙ c.if-not-is_fd_length.true)))

pub returns : goal.returns
returns c =
    let s = c.args.s.now in
    ap (λ (i : ℕ). Front.frame (record { id = i; is_extended = eqb (get_or s 2 0) 1; is_remote = false; is_fd = true; length = get_or s 3 0 })) c.u32_at.ensures
    ∙ sym (fd_sound s (omega (arith, c.if-flags-ge2.false)) ((sym c.is_fd_length.ensures ∙ c.if-not-is_fd_length.false)))
