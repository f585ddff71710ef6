-- `models::HistogramDetector::fits` meets its contract.
-- Assumes nothing.
use mathlib.Core.Path.{sym, ◌∙◌}
use borrow.Author.Tests.{eq-eqb, ne_eqb}
use Rattle.models.specs.Histogram.{bins_fit}
use Rattle.models.proofs.HistogramDetector.fits.Goals.{else-is_sized-via-then-is_sized+else-counts-self, else-is_sized-via-else-is_sized}
use Rattle.models.proofs.HistogramDetector.fits.Goals as goal

pub returns-then-counts-self-clause-told : goal.returns-then-counts-self-clause-told
unfolding bins_fit
returns-then-counts-self-clause-told c = sym (rw (sym c.is_sized.ensures ∙ c.if-is_sized.true) (eq-eqb _ _ c.if-counts-self.true))

pub returns-else-is_sized-clause-told : goal.returns-else-is_sized-clause-told
unfolding bins_fit
returns-else-is_sized-clause-told c =
    elim c.else-is_sized.branch [
      | else-is_sized-via-then-is_sized+else-counts-self w ↦ sym (rw (sym c.is_sized.ensures ∙ w.if-is_sized.true) (ne_eqb _ _ w.if-counts-self.false))
      | else-is_sized-via-else-is_sized w ↦ sym (rw (sym c.is_sized.ensures ∙ w.if-is_sized.false))
    ]
