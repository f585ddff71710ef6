-- `models::MarkovDetector::observe_transition` meets its contract.
-- Assumes nothing.
use mathlib.Core.Path.{sym}
use Rattle.models.proofs.Parts.{moved_refused, moved_is}
use Rattle.models.proofs.MarkovDetector.observe_transition.Goals as goal

pub returns-in_default : goal.returns-in_default
returns-in_default c = let a = c.args in rw c.refused.ensures (sym (moved_refused a.self a.transition.now a.row_totals.now a.from a.to (sym c.in_default.ensures.told)))

pub returns : goal.returns
returns c =
    let a = c.args in
    rw c.done.ensures (moved_is a.self a.transition.now a.row_totals.now a.from a.to c.cell_index-cell.result c.index-row.result c.count_one-next.result (sym c.in-Ok.ensures.told) c.cell_index-cell.ensures.0 c.index-row.ensures.0 c.count_one-next.ensures)
