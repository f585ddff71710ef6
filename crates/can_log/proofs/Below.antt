-- The promises of the layers below under the names that the log's definitions use, and the one law about frames that the log needs. Assumes nothing.
use mathlib.Core.Path.{◌≡◌}
use Prim.Native.Nat.{ℕ, ◌≤◌}
use lib.Ieee.{Float}
use Rattle.conversion.specs.declared.SignalDefinition.{SignalDefinition}
use Rattle.table.specs.declared.SignalIdsEngine.{SignalIdsEngine}
use Rattle.table.specs.declared.Defined.{Defined}
use Rattle.table.specs.Table.{table_of, created, defined, define', remove'}
use Rattle.frames.specs.declared.CanFrame.{CanFrame}
use Rattle.frames.specs.declared.Processed.{Processed}
use Rattle.frames.specs.Frames.{payload_of, effective_of, processed_means, processed_frame}
use Rattle.frames.proofs.Theorems.{few_anomalies}
use Rattle.can_log.specs.Output.{created_by, defined_by, removed_by, processed_by}

pub by_new : {r : Defined Unit} (a t : Float) → r ≡ created a t → r ≡ created_by a t
unfolding created_by
by_new a t p = p

pub by_define : {r : Defined ℕ} (e : SignalIdsEngine) (d : SignalDefinition) → r ≡ defined e (define' (table_of e) d) → r ≡ defined_by e d
unfolding defined_by
by_define e d p = p

pub by_remove : {r : Defined Unit} (e : SignalIdsEngine) (k : ℕ) → r ≡ defined e (remove' (table_of e) k) → r ≡ removed_by e k
unfolding removed_by
by_remove e k p = p

pub by_frame : (r : Processed) (e : SignalIdsEngine) (f : CanFrame) → processed_means r ≡ processed_frame e f → processed_means r ≡ processed_by e f
unfolding processed_by
by_frame r e f p = p

-- at most eight anomalies are listed
pub few : (e : SignalIdsEngine) (f : CanFrame) → (processed_by e f).result.anomaly_count ≤ 8
unfolding processed_by
few e f = few_anomalies e (effective_of f) f.is_extended f.«data» (payload_of f)
