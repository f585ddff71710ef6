-- The program's turns are few: at most three for each byte that was read, and one. So no log uses up the number that they are counted up to. Assumes nothing.
use mathlib.Core.Path.{◌≡◌, refl, sym, ◌∙◌, ap}
use mathlib.Core.Bool.{Bool, true, false, cond, not, true≢false}
use mathlib.Core.List.{List, [], ◌∷◌, ◌++◌, append-nil}
use mathlib.Core.Logic.{inl, inr}
use Prim.Native.Nat.{ℕ, zero, suc, ◌+◌, ◌-◌, ◌*◌, ◌<◌, ◌≤◌}
use native.Mathlib.Omega.{arith}
use lib.ListN.{length, take, drop, length-append, length-drop}
use lib.Seq.{length-take-le}
use Rattle.std.specs.Prelude.{Option, Some, None}
use borrow.Author.Tests.{ne_eqb}
use Rattle.can_log.specs.declared.stream.Log.{Log}
use Rattle.can_log.specs.Output.{Standing}
use Rattle.can_log.specs.Pieces.{is_ended, concat}
use Rattle.can_log.proofs.Ends.{MovesOn, moves_on, waits_short}
use Rattle.framelog.specs.declared.Got.{Got}
use Rattle.framelog.specs.declared.State.{State}
use Rattle.framelog.specs.Program.{got_of, Read, is_waiting, next_of, after_write, Prints, Turn, unread, more, at_end, unreadable, piece_of, Turns, none, then, pieces, made}
use Rattle.framelog.proofs.Turns.{moved, took_there, kept_in, read_in, turn_keeps}

-- what the turns from a state on cost, before another byte is read
abbrev one : Bool → ℕ
one b = cond b 0 1

abbrev cost : State → ℕ
cost st = 2 * st.have + one st.waiting + one st.ended

-- a state that reads has few bytes at hand, and the end was not told
abbrev Open : State → Type 0
Open st = st.waiting ≡ true → (st.have < 72) × (st.ended ≡ false)

-- ---- a step

module _ {log : Log} {have : ℕ} {ended : Bool} {input out : List ℕ} {r : State} {input' out' : List ℕ} (p : Prints log have ended input out r input' out')
    (h : have ≤ length input) (room : 512 ≤ length out) (g : r.going ≡ true) where
  went : r ≡ next_of (moved p).log (have - (moved p).used) ended (moved p).status
  went = go p.took p.state
    where
      go : (b : Bool) → r ≡ after_write b (moved p).log (have - (moved p).used) ended (moved p).status → r ≡ next_of (moved p).log (have - (moved p).used) ended (moved p).status
      go true e = e
      go false e = absurd (true≢false (sym g ∙ ap (λ (s : State). s.going) e))

  at_hand_now : r.have ≡ have - (moved p).used
  at_hand_now = ap (λ (s : State). s.have) went

  waits_now : (b : Standing) → (moved p).status ≡ b → r.waiting ≡ is_waiting b
  waits_now b q = ap (λ (s : State). s.waiting) went ∙ ap is_waiting q

  step_cost : (cost r ≤ 2 * have + one ended) × Open r
  step_cost = go (moves_on (length out) ended log (take have input) room)
    where
      told : r.ended ≡ ended
      told = ap (λ (s : State). s.ended) went

      go : MovesOn ended (moved p) → (cost r ≤ 2 * have + one ended) × Open r
      go (inl q) = absurd (true≢false (sym g ∙ ap (λ (s : State). s.going) went ∙ ap (λ (b : Standing). not (is_ended b)) q))
      go (inr (inl q)) = (
        omega (arith, at_hand_now, ap one (waits_now Standing.waits q.0), ap one told),
        λ _. (omega (arith, at_hand_now, waits_short (length out) ended log (take have input) q.0, length-take-le have input h), told ∙ q.1),
      )
      go (inr (inr q)) = (
        omega (arith, at_hand_now, q.1, took_there p h, ap one (waits_now Standing.full q.0), ap one told),
        λ z. absurd (true≢false (sym z ∙ waits_now Standing.full q.0)),
      )

-- ---- a read with room brings a byte at least, where it brings any

some : (n : ℕ) (answer : Option ℕ) → Got.Bytes n ≡ got_of answer → 1 ≤ n
some n None e = let z : ◌≡◌ {A = ℕ} 0 1 = cc in absurd (omega arith)
some n (Some zero) e = let z : ◌≡◌ {A = ℕ} 0 1 = cc in absurd (omega arith)
some n (Some (suc k)) e = let z : n ≡ suc k = cc in omega arith

read_some : {have : ℕ} {buf buf' : List ℕ} (n : ℕ) → Read have buf (Got.Bytes n) buf' → have < length buf → 1 ≤ n
read_some {have} {buf} n w h = some n w.answer (w.told ∙ rw (ne_eqb have (length buf) (λ z. omega arith)) refl)

-- ---- the turns

none_made : {st : State} {input out : List ℕ} {r : State} {input' out' : List ℕ} (ws : Turns st input out r input' out') → st.going ≡ false → made ws ≡ 0
none_made none d = refl
none_made (then g w ws) d = absurd (true≢false (sym g ∙ d))

joined : (xs ys : List (List ℕ)) → length (concat (xs ++ ys)) ≡ length (concat xs) + length (concat ys)
joined [] ys = omega arith
joined (x ∷ xs) ys = omega (arith, length-append x (concat (xs ++ ys)), length-append x (concat xs), joined xs ys)

-- a turn costs one, and three are paid for each byte that it reads
abbrev Paid : {st : State} {input out : List ℕ} {r : State} {input' out' : List ℕ} → Turn st input out r input' out' → Type 0
Paid {st} {r = r} w = (1 ≤ cost st) × (r.going ≡ true → (cost r + 1 ≤ cost st + 3 * length (concat (piece_of w))) × Open r)

paid : {st : State} {input out : List ℕ} {r : State} {input' out' : List ℕ} (w : Turn st input out r input' out') → 72 ≤ length input → 512 ≤ length out
    → st.have ≤ length input → Open st → Paid w
paid (unread v p) i o h free = (
  omega (arith, ap one v),
  λ g. let s = step_cost p h o g in (omega (arith, s.0, ap one v), s.1),
)
paid {st} (more v n buf d p) i o h free =
    let l : st.have + n ≤ length buf = read_in d h n refl in
    let x = take n (drop st.have buf) in
    let m : length (concat (x ∷ [])) ≡ n = ap length (append-nil x) ∙ length-take-le n (drop st.have buf) (omega (arith, length-drop st.have buf)) in
    let some_read : 1 ≤ n = read_some n d (omega (arith, (free v).0)) in (
      omega (arith, ap one (free v).1),
      λ g. let s = step_cost p l o g in (omega (arith, s.0, ap one v, ap one (free v).1, m, some_read), s.1),
    )
paid (at_end v buf d p) i o h free = (
  omega (arith, ap one (free v).1),
  λ g. let s = step_cost p (kept_in d h) o g in (omega (arith, s.0, ap one v, ap one (free v).1), s.1),
)
paid (unreadable v d e q) i o h free = (omega (arith, ap one (free v).1), λ g. absurd (true≢false (sym g ∙ ap (λ (s : State). s.going) q)))

turn_then : {st next : State} {input out input₁ out₁ : List ℕ} {r : State} {input' out' : List ℕ} (w : Turn st input out next input₁ out₁) (ws : Turns next input₁ out₁ r input' out')
    → Paid w → (next.going ≡ true → made ws ≤ cost next + 3 * length (concat (pieces ws))) → suc (made ws) ≤ cost st + 3 * length (concat (piece_of w ++ pieces ws))
turn_then {st} {next} w ws c rest = go next.going refl
  where
    go : (b : Bool) → next.going ≡ b → suc (made ws) ≤ cost st + 3 * length (concat (piece_of w ++ pieces ws))
    go true q = omega (arith, rest q, (c.1 q).0, joined (piece_of w) (pieces ws))
    go false q = omega (arith, none_made ws q, c.0)

pub few_turns : {st : State} {input out : List ℕ} {r : State} {input' out' : List ℕ} (ws : Turns st input out r input' out') → 72 ≤ length input → 512 ≤ length out
    → st.have ≤ length input → Open st → made ws ≤ cost st + 3 * length (concat (pieces ws))
few_turns none i o h free = omega arith
few_turns (then g w ws) i o h free =
    let k = turn_keeps w h in
    let c = paid w i o h free in
    turn_then w ws c (λ q. few_turns ws (omega (arith, k.long_in)) (omega (arith, k.long_off)) k.within (c.1 q).1)
