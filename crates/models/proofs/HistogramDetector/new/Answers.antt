-- `models::HistogramDetector::new` meets its contract.
-- Assumes nothing.
use mathlib.Core.Path.{ap, ◌∙◌}
use Rattle.models.specs.declared.HistogramDetector.{HistogramDetector}
use Rattle.models.specs.Histogram.{new_bins, reset_bins}
use Rattle.models.proofs.HistogramDetector.new.Goals as goal

pub returns : goal.returns
unfolding new_bins reset_bins
returns c = c.reset.ensures ∙ ap (λ (m : HistogramDetector). reset_bins m c.args.counts.now) c.fresh.ensures
