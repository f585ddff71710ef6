-- `models::ratio_of` meets its contract.
-- Assumes nothing.
use mathlib.Core.Path.{ap₂}
use borrow.Author.Tests.{eq-eqb, ne_eqb}
use lib.Ieee.{binary32, div}
use Rattle.models.specs.Counts.{ratio}
use Rattle.models.proofs.ratio_of.Goals as goal

pub returns-then-total-eq0 : goal.returns-then-total-eq0
unfolding ratio
returns-then-total-eq0 c = rw (eq-eqb _ _ c.if-total-eq0.true)

pub returns : goal.returns
unfolding ratio
returns c = rw (ne_eqb _ _ c.if-total-eq0.false) (ap₂ (div binary32) c.f32_of_count.ensures c.f32_of_count-2.ensures)
