-- `models::MarkovDetector::new` meets its contract.
-- Assumes nothing.
use mathlib.Core.Path.{ap, ◌∙◌}
use Rattle.models.specs.declared.MarkovDetector.{MarkovDetector}
use Rattle.models.specs.Markov.{new_states, reset_states}
use Rattle.models.proofs.MarkovDetector.new.Goals as goal

pub returns : goal.returns
unfolding new_states reset_states
returns c = c.reset.ensures ∙ ap (λ (m : MarkovDetector). reset_states m c.args.transition.now c.args.row_totals.now) c.fresh.ensures
