-- What is left moved to the front of its buffer, and what is at hand after a call. Assumes nothing.
use mathlib.Core.Path.{◌≡◌, sym, ◌∙◌, ap}
use mathlib.Core.Bool.{Bool}
use mathlib.Core.List.{List, ◌++◌}
use Prim.Native.Nat.{ℕ, ◌+◌, ◌-◌, ◌≤◌}
use native.Mathlib.Omega.{arith}
use lib.ListN.{length, take, drop, length-drop}
use lib.Seq.{sets-eq, take_at, take-add, drop_at, length-take-le}
use Rattle.std.specs.List.{copy_within}
use Rattle.io.specs.Counts.{IsPrefixLen}
use Rattle.can_log.specs.declared.stream.Log.{Log}
use Rattle.can_log.specs.declared.stream.Step.{Step}
use Rattle.can_log.specs.Pieces.{Does, advance_of}
use Rattle.can_log.proofs.Runs.{advance_fits}
use Rattle.framelog.specs.Program.{remaining}

-- what the library's `copy_within` leaves is what `remaining` says
pub moved_down : (buf : List ℕ) (have used : ℕ) → used ≤ have → have ≤ length buf → copy_within buf used have 0 ≡ remaining buf have used
moved_down buf have used h l =
    let v = take (have - used) (drop used buf) in
    let n : length v ≡ have - used = length-take-le (have - used) (drop used buf) (omega (arith, length-drop used buf)) in
    let z : 0 + length v ≤ length buf = omega arith in
    sym (sets-eq v buf 0 z ∙ ap (λ (k : ℕ). v ++ drop (0 + k) buf) n)

-- a call takes bytes that are at hand, and what it writes has room
pub worked : {d out : List ℕ} {r : Step} (ended : Bool) (log : Log) (have : ℕ) (input : List ℕ) → have ≤ length input
    → Does d 0 (advance_of (length d) ended log (take have input)) r out → (r.used ≤ have) × IsPrefixLen r.end out
worked ended log have input h p =
    let fits = advance_fits ended log (take have input) p in
    (omega (arith, fits.0, length-take-le have input h), fits.1)

-- the bytes at hand after a call are those that it left: the next call goes on from there, as `Calls` of the log has it
pub at_hand : (buf : List ℕ) (have used : ℕ) → used ≤ have → have ≤ length buf → take (have - used) (remaining buf have used) ≡ drop used (take have buf)
at_hand buf have used h l =
    let v = take (have - used) (drop used buf) in
    let n : length v ≡ have - used = length-take-le (have - used) (drop used buf) (omega (arith, length-drop used buf)) in
    let z : 0 + length v ≤ length buf = omega arith in
    let k : used + (have - used) ≡ have = omega arith in
    let t : length (take used buf) ≡ used = length-take-le used buf (omega arith) in
    ap (take (have - used)) (sets-eq v buf 0 z) ∙ take_at v (drop (0 + length v) buf) (have - used) n
    ∙ sym (ap (λ (j : ℕ). drop used (take j buf)) (sym k) ∙ ap (drop used) (take-add used (have - used) buf) ∙ drop_at (take used buf) v used t)
