-- `models::MarkovDetector::score_transition` meets its contract.
-- Assumes nothing.
use mathlib.Core.Path.{sym, ap, ap₂, ◌∙◌}
use Prim.Native.Nat.{ℕ}
use lib.ListN.{get_or}
use Rattle.models.specs.Counts.{ratio, scored}
use Rattle.std.proofs.lemmas.Result.{err_from_is_err_and}
use Rattle.models.proofs.Parts.{score_given, score_refused}
use Rattle.models.proofs.MarkovDetector.score_transition.Goals as goal

pub returns-in_err-fits : goal.returns-in_err-fits
returns-in_err-fits c = rw (err_from_is_err_and c.from_residual.result c.from_residual.ensures.1).1 (sym (score_refused c.args.self c.args.transition.now c.args.row_totals.now c.args.from c.args.to (sym c.in_err-fits.ensures.told)))

pub returns : goal.returns
returns c =
    let a = c.args in
    ap scored (c.ratio_of.ensures ∙ ap₂ (λ (i j : ℕ). ratio (get_or a.transition.now i 0) (get_or a.row_totals.now j 0)) c.cell_index-cell.ensures.0 c.index-row.ensures.0)
    ∙ sym (score_given a.self a.transition.now a.row_totals.now a.from a.to (sym c.in_ok-fits.ensures.told))
