-- `models::MarkovDetector::fits` meets its contract.
-- Assumes nothing.
use mathlib.Core.Path.{sym, ◌∙◌}
use borrow.Author.Tests.{eq-eqb, ne_eqb}
use Rattle.models.specs.Markov.{states_fit}
use Rattle.models.proofs.MarkovDetector.fits.Goals as goal
use Rattle.models.proofs.MarkovDetector.fits.Goals.{else-is_sized-via-then-is_sized+then-transition-self+else-row_totals-self, else-is_sized-via-then-is_sized+else-transition-self, else-is_sized-via-else-is_sized}

pub returns-then-row_totals-self-clause-told : goal.returns-then-row_totals-self-clause-told
unfolding states_fit
returns-then-row_totals-self-clause-told c = sym (rw (sym c.is_sized.ensures ∙ c.if-is_sized.true) (rw (eq-eqb _ _ c.if-transition-self.true) (eq-eqb _ _ c.if-row_totals-self.true)))

pub returns-else-is_sized-clause-told : goal.returns-else-is_sized-clause-told
unfolding states_fit
returns-else-is_sized-clause-told c =
    elim c.else-is_sized.branch [
      | else-is_sized-via-then-is_sized+then-transition-self+else-row_totals-self w ↦ sym (rw (sym c.is_sized.ensures ∙ w.if-is_sized.true) (rw (eq-eqb _ _ w.if-transition-self.true) (ne_eqb _ _ w.if-row_totals-self.false)))
      | else-is_sized-via-then-is_sized+else-transition-self w ↦ sym (rw (sym c.is_sized.ensures ∙ w.if-is_sized.true) (rw (ne_eqb _ _ w.if-transition-self.false)))
      | else-is_sized-via-else-is_sized w ↦ sym (rw (sym c.is_sized.ensures ∙ w.if-is_sized.false))
    ]
