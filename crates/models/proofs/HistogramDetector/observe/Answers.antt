-- `models::HistogramDetector::observe` meets its contract.
-- Assumes nothing.
use mathlib.Core.Path.{sym}
use Rattle.models.proofs.Parts.{observed_refused, observed_is}
use Rattle.models.proofs.HistogramDetector.observe.Goals as goal

pub returns-in_default : goal.returns-in_default
returns-in_default c = rw c.refused.ensures (sym (observed_refused c.args.self c.args.counts.now c.args.value (sym c.in_default.ensures.told)))

pub returns : goal.returns
returns c =
    let a = c.args in
    rw c.done.ensures (observed_is a.self a.counts.now a.value c.index-i.result c.count_one-next.result c.mark-seen.result (sym c.in-Ok.ensures.told) c.index-i.ensures.0 c.count_one-next.ensures c.mark-seen.ensures)
