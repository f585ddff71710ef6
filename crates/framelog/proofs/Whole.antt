-- The turns of the program are a run of calls as `any_cutting` has it: what it hands to the writes is the output of what it read. Assumes nothing.
use mathlib.Core.Path.{◌≡◌, refl, sym, ◌∙◌, ap, subst}
use mathlib.Core.Bool.{Bool, true, false, not, ◌&&◌, true≢false}
use mathlib.Core.List.{List, [], ◌++◌, append-nil}
use mathlib.Core.Logic.{inl, inr}
use Prim.Native.Nat.{ℕ, ◌+◌, ◌-◌, ◌≤◌}
use native.Mathlib.Omega.{arith}
use lib.ListN.{length, take, drop}
use lib.Seq.{take-add}
use Rattle.can_log.specs.declared.stream.Log.{Log}
use Rattle.can_log.specs.Output.{output}
use Rattle.can_log.specs.Pieces.{is_ended, concat, Calls, read, call, last}
use Rattle.can_log.proofs.Seams.{any_cutting}
use Rattle.can_log.proofs.Ends.{Stands, stands}
use Rattle.framelog.specs.declared.State.{State}
use Rattle.framelog.specs.Program.{is_waiting, next_of, after_write, Prints, unread, more, at_end, unreadable, Turns, none, then, pieces, lines, all_succeed, begun}
use Rattle.framelog.proofs.Turns.{moved, left, fits, kept_in, read_in}

-- ---- once the end was told, it is told in every turn, and none reads

module _ {log : Log} {have : ℕ} {ended : Bool} {input out : List ℕ} {r : State} {input' out' : List ℕ} (p : Prints log have ended input out r input' out') where
  closed : ended ≡ true → (r.ended ≡ true) × (r.waiting ≡ false)
  closed h = go p.took p.state
    where
      at : Stands ended (moved p).status → is_waiting (moved p).status ≡ false
      at (inl q) = ap is_waiting q
      at (inr (inl q)) = absurd (true≢false (sym h ∙ q.1))
      at (inr (inr q)) = ap is_waiting q

      go : (b : Bool) → r ≡ after_write b (moved p).log (have - (moved p).used) ended (moved p).status → (r.ended ≡ true) × (r.waiting ≡ false)
      go true e = (ap (λ (s : State). s.ended) e ∙ h, ap (λ (s : State). s.waiting) e ∙ at (stands (length out) ended log (take have input)))
      go false e = (ap (λ (s : State). s.ended) e, ap (λ (s : State). s.waiting) e)

no_more : {st : State} {input out : List ℕ} {r : State} {input' out' : List ℕ} (ws : Turns st input out r input' out') → st.ended ≡ true → st.waiting ≡ false → pieces ws ≡ []
no_more none e w = refl
no_more (then g (unread v p) ws) e w = no_more ws (closed p e).0 (closed p e).1
no_more (then g (more v n buf d p) ws) e w = absurd (true≢false (sym v ∙ w))
no_more (then g (at_end v buf d p) ws) e w = absurd (true≢false (sym v ∙ w))
no_more (then g (unreadable v d o q) ws) e w = absurd (true≢false (sym v ∙ w))

-- no turn follows a state that does not go on
over : {st : State} {input out : List ℕ} {r : State} {input' out' : List ℕ} (ws : Turns st input out r input' out') → st.going ≡ false → (pieces ws ≡ []) × (lines ws ≡ [])
over none d = (refl, refl)
over (then g w ws) d = absurd (true≢false (sym g ∙ d))

-- ---- a step, and a run of calls behind it

module _ {log : Log} {have : ℕ} {ended : Bool} {input out : List ℕ} {r : State} {input₁ out₁ : List ℕ} (p : Prints log have ended input out r input₁ out₁)
    (h : have ≤ length input) (took : p.took ≡ true) {z : State} {input' out' : List ℕ} (ws : Turns r input₁ out₁ z input' out') where
  next : r ≡ next_of (moved p).log (have - (moved p).used) ended (moved p).status
  next = p.state ∙ ap (λ (b : Bool). after_write b (moved p).log (have - (moved p).used) ended (moved p).status) took

  none_behind : ended ≡ true → concat (pieces ws) ≡ []
  none_behind e = ap concat (no_more ws (closed p e).0 (closed p e).1)

  from_here : (r.going ≡ true → Calls r.log (take r.have input₁) (pieces ws) (lines ws)) → Calls log (take have input) (pieces ws) ((moved p).text ++ lines ws)
  from_here rest = go (is_ended (moved p).status) refl
    where
      go : (b : Bool) → is_ended (moved p).status ≡ b → Calls log (take have input) (pieces ws) ((moved p).text ++ lines ws)
      go true e =
          let d : r.going ≡ false = ap (λ (s : State). s.going) next ∙ ap not e in
          let t : (moved p).text ≡ (moved p).text ++ lines ws = sym (append-nil (moved p).text) ∙ ap (λ (l : List ℕ). (moved p).text ++ l) (sym (over ws d).1) in
          subst (Calls log (take have input) (pieces ws)) t (last (length out) ended none_behind (moved p) refl e)
      go false e =
          let g : r.going ≡ true = ap (λ (s : State). s.going) next ∙ ap not e in
          let c : Calls (moved p).log (take (have - (moved p).used) input₁) (pieces ws) (lines ws) =
          subst (λ (s : State). Calls s.log (take s.have input₁) (pieces ws) (lines ws)) next (rest g) in
          call (length out) ended none_behind (moved p) refl e (subst (λ (l : List ℕ). Calls (moved p).log l (pieces ws) (lines ws)) (left p h) c)

both : (a b : Bool) → a && b ≡ true → (a ≡ true) × (b ≡ true)
both true true e = (refl, refl)
both true false e = absurd (true≢false (sym e))
both false b e = absurd (true≢false (sym e))

-- turns that all succeed, until the log has stopped, are a run of calls
pub as_calls : {st : State} {input out : List ℕ} {r : State} {input' out' : List ℕ} (ws : Turns st input out r input' out')
    → st.have ≤ length input → st.going ≡ true → r.going ≡ false → all_succeed ws ≡ true → Calls st.log (take st.have input) (pieces ws) (lines ws)
as_calls none h g d s = absurd (true≢false (sym g ∙ d))
as_calls (then _ (unread v p) ws) h g d s =
    let t = both p.took (all_succeed ws) s in
    from_here p h t.0 ws (λ q. as_calls ws (fits p h) q d t.1)
as_calls {st} {input} (then _ (more v n buf w p) ws) h g d s =
    let t = both p.took (all_succeed ws) s in
    let l : st.have + n ≤ length buf = read_in w h n refl in
    let e : take (st.have + n) buf ≡ take st.have input ++ take n (drop st.have buf) =
    take-add st.have n buf ∙ ap (λ (a : List ℕ). a ++ take n (drop st.have buf)) w.stay in
    read (subst (λ (a : List ℕ). Calls st.log a (pieces ws) ((moved p).text ++ lines ws)) e (from_here p l t.0 ws (λ q. as_calls ws (fits p l) q d t.1)))
as_calls {st} (then _ (at_end v buf w p) ws) h g d s =
    let t = both p.took (all_succeed ws) s in
    let l : st.have ≤ length buf = kept_in w h in
    subst (λ (a : List ℕ). Calls st.log a (pieces ws) ((moved p).text ++ lines ws)) w.stay (from_here p l t.0 ws (λ q. as_calls ws (fits p l) q d t.1))
as_calls (then _ (unreadable v w o q) ws) h g d s = absurd (true≢false (sym s))

-- THE THEOREM: if no read and no write failed, then once the log has stopped the lines that were handed to the writes, joined, are the output of the pieces
-- that were read, joined
pub whole_output : {input out : List ℕ} {r : State} {input' out' : List ℕ} (ws : Turns begun input out r input' out') → r.going ≡ false → all_succeed ws ≡ true
    → lines ws ≡ output (concat (pieces ws))
whole_output ws d s = any_cutting (pieces ws) (lines ws) (as_calls ws (omega arith) refl d s)
