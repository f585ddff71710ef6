-- `models::MarkovDetector::reset` meets its contract.
-- Assumes nothing.
use mathlib.Core.Path.{sym, ◌∙◌}
use Rattle.models.proofs.Parts.{same-stated, states_reset, states_kept}
use Rattle.models.proofs.MarkovDetector.reset.Goals as goal

pub returns-in_default : goal.returns-in_default
returns-in_default c = rw c.refused.ensures (sym (states_kept c.args.self c.args.transition.now c.args.row_totals.now (sym c.in_default.ensures.told)))

pub returns : goal.returns
returns c =
    rw c.done.ensures (same-stated c.fresh.ensures (c.fill.ensures.after (λ y e. e)) (c.fill-2.ensures.after (λ y e. e))
    ∙ sym (states_reset c.args.self c.args.transition.now c.args.row_totals.now (sym c.in-Ok.ensures.told)))
