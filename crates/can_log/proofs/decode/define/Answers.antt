-- `can_log::decode::define` meets its contract.
-- Assumes nothing.
use Rattle.can_log.proofs.Front as front
use Rattle.can_log.proofs.decode.define.Goals as goal

pub returns-then-is_bad : goal.returns-then-is_bad
returns-then-is_bad c = front.bad _ _ _ c.u16_at-number.ensures c.is_bad.ensures c.if-is_bad.true

pub returns : goal.returns
returns c = simp (c.condition_of.ensures, c.u32_at-4.ensures, c.f32_of_bits-2.ensures, c.u32_at-3.ensures, c.f32_of_bits.ensures, c.u32_at-2.ensures, c.order_of.ensures, c.u16_at.ensures, c.u32_at.ensures, c.u16_at-number.ensures) (front.good _ _ _ c.u16_at-number.ensures c.is_bad.ensures c.if-is_bad.false)
