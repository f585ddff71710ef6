-- `models::HistogramDetector::is_anomalous` meets its contract.
-- Assumes nothing.
use mathlib.Core.Path.{sym, ap, ◌∙◌}
use Rattle.models.specs.Histogram.{judged}
use Rattle.std.proofs.lemmas.Result.{err_from_is_err_and}
use Rattle.models.proofs.Parts.{judged_so, judged_not}
use Rattle.models.proofs.HistogramDetector.is_anomalous.Goals as goal

pub returns-in_err-fits : goal.returns-in_err-fits
returns-in_err-fits c = rw (err_from_is_err_and c.from_residual.result c.from_residual.ensures.1).1 (sym (judged_not c.args.self c.args.counts.now c.args.value c.args.threshold (sym c.in_err-fits.ensures.told)))

pub returns : goal.returns
returns c = ap judged c.flags.ensures ∙ sym (judged_so c.args.self c.args.counts.now c.args.value c.args.threshold (sym c.in_ok-fits.ensures.told))
