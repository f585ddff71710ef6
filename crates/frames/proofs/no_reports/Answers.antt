-- `frames::no_reports` meets its contract: a blank anomaly is one of zeros, and so are the counts of none.
-- Assumes nothing.
use mathlib.Core.Path.{◌≡◌}
use mathlib.Core.List.{flat_map}
use Rattle.std.specs.Float.{binary32}
use Rattle.std.specs.Float.Ieee.{of_bits}
use Rattle.table.specs.Rows.{pad}
use Rattle.frames.specs.declared.SignalAnomaly.{SignalAnomaly}
use Rattle.frames.specs.declared.Counts.{Counts}
use Rattle.frames.specs.Frames.{blank_anomaly, blank_report}
use Rattle.frames.proofs.no_reports.Goals as goal

zeros : (a : SignalAnomaly) → (a.slot ≡ 0) × ((a.z_score ≡ of_bits binary32 0) × (a.physical_value ≡ of_bits binary32 0)) → a ≡ blank_anomaly
unfolding blank_anomaly
zeros a h = rw (h.0, h.1.0, h.1.1)

none : (n : Counts) → (n.condition_not_met ≡ 0) × ((n.outside ≡ 0) × (n.not_finite ≡ 0)) → n ≡ record { condition_not_met = 0; outside = 0; not_finite = 0 }
none n h = rw (h.0, h.1.0, h.1.1)

pub returns : goal.returns
unfolding blank_anomaly blank_report pad flat_map
returns c = rw (zeros c.default.result c.default.ensures, none c.default-2.result c.default-2.ensures)
