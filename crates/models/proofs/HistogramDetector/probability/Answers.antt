-- `models::HistogramDetector::probability` meets its contract.
-- Assumes nothing.
use mathlib.Core.Path.{sym, ap, ◌∙◌}
use Prim.Native.Nat.{ℕ}
use lib.ListN.{get_or}
use Rattle.models.specs.Counts.{ratio, scored}
use Rattle.std.proofs.lemmas.Result.{err_from_is_err_and}
use Rattle.models.proofs.Parts.{probable, improbable}
use Rattle.models.proofs.HistogramDetector.probability.Goals as goal

pub returns-in_err-fits : goal.returns-in_err-fits
returns-in_err-fits c = rw (err_from_is_err_and c.from_residual.result c.from_residual.ensures.1).1 (sym (improbable c.args.self c.args.counts.now c.args.value (sym c.in_err-fits.ensures.told)))

pub returns : goal.returns
returns c =
    ap scored (c.ratio_of.ensures ∙ ap (λ (i : ℕ). ratio (get_or c.args.counts.now i 0) c.args.self.total) c.index.ensures.0)
    ∙ sym (probable c.args.self c.args.counts.now c.args.value (sym c.in_ok-fits.ensures.told))
