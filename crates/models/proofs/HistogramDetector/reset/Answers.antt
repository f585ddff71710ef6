-- `models::HistogramDetector::reset` meets its contract.
-- Assumes nothing.
use mathlib.Core.Path.{sym, ap₂, ◌∙◌}
use Rattle.models.specs.Histogram.{binned}
use Rattle.models.proofs.Parts.{reset_done, reset_refused}
use Rattle.models.proofs.HistogramDetector.reset.Goals as goal

pub returns-in_default : goal.returns-in_default
returns-in_default c = rw c.refused.ensures (sym (reset_refused c.args.self c.args.counts.now (sym c.in_default.ensures.told)))

pub returns : goal.returns
returns c =
    rw c.done.ensures (ap₂ (binned 0) c.fresh.ensures (c.fill.ensures.after (λ y e. e)) ∙ sym (reset_done c.args.self c.args.counts.now (sym c.in-Ok.ensures.told)))
