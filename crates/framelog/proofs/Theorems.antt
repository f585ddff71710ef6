-- What is known of a compiled call of `run`, by its promise alone, `run.Learnt`: κs are its lifetimes, x is what its buffers are at exit. Assumes nothing.
use mathlib.Core.Path.{◌≡◌, refl}
use mathlib.Core.Bool.{true, false}
use mathlib.Core.Logic.{◌⊎◌, inl, inr}
use Prim.Native.Nat.{◌^◌, ◌≤◌}
use native.Mathlib.Omega.{arith}
use contract.Lifetimes.{Lfts}
use lib.ListN.{length}
use Rattle.can_log.specs.Output.{output}
use Rattle.can_log.specs.Pieces.{concat}
use Rattle.framelog.specs.Program.{pieces, lines, all_succeed, made, Ran}
use Rattle.framelog.proofs.Whole.{whole_output}
use Rattle.framelog.proofs.Count.{few_turns}
use Rattle.framelog.proofs.run.Reads as run

-- the buffers have room for a record and for what it prints; the program's have 65,536 bytes
module _ (κs : Lfts 2) (streams : _) (input out : _) (r : _) (x : _) (w : run.Learnt κs (streams, (input, (out, tt))) r x) (space : 72 ≤ length input.now) (room : 512 ≤ length out.now) where
  abbrev pub ran : Ran input.now out.now x.1.0.now x.1.1.0.now
  ran = w

  -- up to 2 ^ 62 bytes the turns are not used up: the log has stopped, or a read or a write failed
  pub comes_to_end : length (concat (pieces ran.turns)) ≤ 2 ^ 62 → ran.state.going ≡ false
  comes_to_end l = go ran.over
    where
      go : (ran.state.going ≡ false) ⊎ (made ran.turns ≡ 18446744073709551615) → ran.state.going ≡ false
      go (inl d) = d
      go (inr d) = absurd (omega (arith, d, few_turns ran.turns space room (omega arith) (λ _. (omega arith, refl))))

  -- THE THEOREM: if no read and no write failed, then what was handed to the writes, joined, is the output of what was read, joined
  pub program_output : length (concat (pieces ran.turns)) ≤ 2 ^ 62 → all_succeed ran.turns ≡ true → lines ran.turns ≡ output (concat (pieces ran.turns))
  program_output l s = whole_output ran.turns (comes_to_end l) s
