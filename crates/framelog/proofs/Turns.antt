-- What a read leaves, what `print` makes of a step, and the loop of turns. Assumes nothing.
use mathlib.Core.Path.{◌≡◌, refl, sym, ◌∙◌, ap, subst}
use mathlib.Core.Bool.{Bool, true, false, cond}
use mathlib.Core.List.{List}
use mathlib.Core.Logic.{inl, inr}
use Prim.Native.Nat.{ℕ, zero, suc, ◌+◌, ◌-◌, ◌≤◌}
use native.Mathlib.Omega.{arith}
use Rattle.std.specs.Prelude.{Option, Some, None, IfSome, ◌==◌}
use lib.ListN.{length, take, drop}
use lib.Seq.{length-sets, length-take-le}
use Rattle.can_log.specs.declared.stream.Log.{Log}
use Rattle.can_log.specs.declared.stream.Step.{Step}
use Rattle.can_log.specs.Output.{Move, status_means}
use Rattle.can_log.specs.Pieces.{Does}
use Rattle.can_log.proofs.Runs.{run_fits}
use Rattle.framelog.specs.declared.Got.{Got}
use Rattle.framelog.specs.declared.State.{State}
use Rattle.framelog.specs.Program.{got_of, Read, remaining, after_write, move_of, Prints, Turn, unread, more, at_end, unreadable, Turns, none, then, made, begun, Ran}
use Rattle.framelog.proofs.Down.{at_hand}

-- ---- a read

bytes_in : (room n : ℕ) (answer : Option ℕ) → IfSome answer (λ k. k ≤ room) → Got.Bytes n ≡ got_of answer → n ≤ room
bytes_in room n None l e = let z : ◌≡◌ {A = ℕ} 0 1 = cc in absurd (omega arith)
bytes_in room n (Some zero) l e = let z : ◌≡◌ {A = ℕ} 0 1 = cc in absurd (omega arith)
bytes_in room n (Some (suc k)) l e = let z : n ≡ suc k = cc in omega arith

module _ {have : ℕ} {buf : List ℕ} {got : Got} {buf' : List ℕ} (w : Read have buf got buf') (h : have ≤ length buf) where
  -- the bytes at hand are within the buffer, and what was read behind them
  pub kept_in : have ≤ length buf'
  kept_in = omega (arith, w.long)

  pub read_in : (n : ℕ) → got ≡ Got.Bytes n → have + n ≤ length buf'
  read_in n e = go (have == length buf) w.told
    where
      go : (b : Bool) → got ≡ cond b (Got.Bytes 0) (got_of w.answer) → have + n ≤ length buf'
      go true t = let z : n ≡ 0 = cc in omega (arith, w.long)
      go false t = omega (arith, w.long, bytes_in (length buf - have) n w.answer w.moved (sym e ∙ t))

-- the same read under another name of what it brought
pub got_as : {have : ℕ} {buf : List ℕ} {got got' : Got} {buf' : List ℕ} → Read have buf got buf' → got ≡ got' → Read have buf got' buf'
got_as {have} {buf} {got} {got'} {buf'} w e = subst (λ (g : Got). Read have buf g buf') e w

-- ---- what `print` makes of a step

pub printed : (log : Log) (have : ℕ) (ended : Bool) (input out : List ℕ) {r : Step} {input' out' : List ℕ} {st : State} (took : Bool)
    → Does out 0 (move_of log have ended input out) r out' → input' ≡ remaining input have r.used
    → st ≡ after_write took r.log (have - r.used) ended (status_means r.status) → Prints log have ended input out st input' out'
printed log have ended input out {r} took p q e =
    let m = move_of log have ended input out in
    record {
      took = took;
      state =
          e ∙ ap (λ (x : Log). after_write took x (have - r.used) ended (status_means r.status)) p.log
          ∙ ap (λ (n : ℕ). after_write took m.log (have - n) ended (status_means r.status)) p.used
          ∙ ap (after_write took m.log (have - m.used) ended) p.status;
      rest = q ∙ ap (remaining input have) p.used;
      lines = p.put.done;
    }

module _ {log : Log} {have : ℕ} {ended : Bool} {input out : List ℕ} {r : State} {input' out' : List ℕ} (p : Prints log have ended input out r input' out') where
  abbrev pub moved : Move
  moved = move_of log have ended input out

  pub long : length input' ≡ length input
  long = ap length p.rest ∙ length-sets input 0 (take (have - moved.used) (drop moved.used input))

  pub long_out : length out' ≡ length out
  long_out = ap length p.lines ∙ length-sets out 0 moved.text

  module _ (h : have ≤ length input) where
    pub took_there : moved.used ≤ have
    took_there = omega (arith, (run_fits (suc (length (take have input))) (length out) ended log (take have input)).0, length-take-le have input h)

    -- the bytes at hand after it are those that it left
    pub left : take (have - moved.used) input' ≡ drop moved.used (take have input)
    left = ap (take (have - moved.used)) p.rest ∙ at_hand input have moved.used took_there h

    pub fits : r.have ≤ length input'
    fits = go p.took p.state
      where
        go : (b : Bool) → r ≡ after_write b moved.log (have - moved.used) ended moved.status → r.have ≤ length input'
        go true e = omega (arith, ap (λ (s : State). s.have) e, long)
        go false e = omega (arith, ap (λ (s : State). s.have) e)

-- ---- a turn keeps the lengths of its buffers, and the bytes at hand within the first

pub record Kept (input out : List ℕ) (r : State) (input' out' : List ℕ) : Type 0 where
  pub long_in : length input' ≡ length input
  pub long_off : length out' ≡ length out
  pub within : r.have ≤ length input'

pub turn_keeps : {st : State} {input out : List ℕ} {r : State} {input' out' : List ℕ} → Turn st input out r input' out' → st.have ≤ length input → Kept input out r input' out'
turn_keeps (unread w p) h = record { long_in = long p; long_off = long_out p; within = fits p h }
turn_keeps (more w n buf d p) h = record { long_in = long p ∙ d.long; long_off = long_out p; within = fits p (read_in d h n refl) }
turn_keeps (at_end w buf d p) h = record { long_in = long p ∙ d.long; long_off = long_out p; within = fits p (kept_in d h) }
turn_keeps (unreadable w d o q) h = record { long_in = d.long; long_off = ap length o; within = omega (arith, ap (λ (s : State). s.have) q) }

-- ---- the loop of turns

-- one turn more
abbrev one_more : {st s : State} {input out i o : List ℕ} {r : State} {input' out' : List ℕ} → Turns st input out s i o → s.going ≡ true → Turn s i o r input' out' → Turns st input out r input' out'
one_more none g w = then g w none
one_more (then k v ws) g w = then k v (one_more ws g w)

made_more : {st s : State} {input out i o : List ℕ} {r : State} {input' out' : List ℕ} (ws : Turns st input out s i o) (g : s.going ≡ true) (w : Turn s i o r input' out')
    → made (one_more ws g w) ≡ suc (made ws)
made_more none g w = refl
made_more (then k v ws) g w = ap suc (made_more ws g w)

-- what holds at the loop's head: the state was reached by so many turns
pub record Reached (input₀ out₀ input out : List ℕ) (st : State) (turns : ℕ) : Type 0 where
  pub by : Turns begun input₀ out₀ st input out
  pub counted : made by ≡ turns
  pub kept : Kept input₀ out₀ st input out

pub at_first : {input out : List ℕ} {st : State} → st ≡ begun → Reached input out input out st 0
at_first {input} {out} {st} e =
    subst (λ (s : State). Reached input out input out s 0) (sym e)
    (record { by = none; counted = refl; kept = record { long_in = refl; long_off = refl; within = omega arith } })

pub next_turn : {input₀ out₀ input out : List ℕ} {st : State} {turns : ℕ} → Reached input₀ out₀ input out st turns → st.going ≡ true
    → {r : State} {input' out' : List ℕ} → Turn st input out r input' out' → Reached input₀ out₀ input' out' r (turns + 1)
next_turn a g w =
    let k = turn_keeps w a.kept.within in
    record {
      by = one_more a.by g w;
      counted = omega (arith, a.counted, made_more a.by g w);
      kept = record { long_in = k.long_in ∙ a.kept.long_in; long_off = k.long_off ∙ a.kept.long_off; within = k.within };
    }

pub no_turn : {input₀ out₀ input out : List ℕ} {st : State} {turns : ℕ} → Reached input₀ out₀ input out st turns → st.going ≡ false → Ran input₀ out₀ input out
no_turn {st = st} a d = record { state = st; turns = a.by; over = inl d }

pub no_turn_left : {input₀ out₀ input out : List ℕ} {st : State} {turns : ℕ} → Reached input₀ out₀ input out st turns → turns ≡ 18446744073709551615 → Ran input₀ out₀ input out
no_turn_left {st = st} a z = record { state = st; turns = a.by; over = inr (omega (arith, a.counted)) }
