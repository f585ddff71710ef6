-- Runs of calls come to their end: `runs`. And a compiled call of `advance` is a call of such a run: `call_promised`, `last_promised`. Assumes nothing.
use mathlib.Core.Path.{◌≡◌, refl, sym, ◌∙◌, ap}
use mathlib.Core.Bool.{Bool, true, false, true≢false}
use mathlib.Core.List.{List, [], ◌∷◌, ◌++◌}
use mathlib.Core.Logic.{◌⊎◌, inl, inr}
use Prim.Native.Nat.{ℕ, zero, suc, ◌+◌, ◌-◌, ◌<◌, ◌≤◌}
use native.Mathlib.Omega.{arith}
use contract.Lifetimes.{Lfts}
use lib.ListN.{length, take, drop, get_or, length-append, length-drop}
use lib.Seq.{sets-eq, take_at}
use lib.Dec.{ltb, leb, eqb}
use borrow.Author.Tests.{ltb-true, eqb-true}
use Rattle.table.specs.declared.SignalIdsEngine.{SignalIdsEngine}
use Rattle.table.specs.declared.TableError.{TableError}
use Rattle.std.specs.Prelude.{Option, Some, None, Result, Ok, Err}
use Rattle.can_log.specs.declared.decode.Mark.{Mark}
use Rattle.can_log.specs.declared.stream.Log.{Log}
use Rattle.can_log.specs.declared.stream.Step.{Step}
use Rattle.can_log.specs.Records.{Front, item_of, mark_of, size_of, misplaced, record_of, settings_of, define_of, remove_of, frame_of, fd_length, fd_frame_of, bad_flags, le16}
use Rattle.can_log.specs.Lines.{Put}
use Rattle.can_log.specs.Output.{Standing, status_means, created_by, settled_step, item_step, Move, step_of, goes_on, output, start_of}
use Rattle.can_log.specs.Pieces.{run_on, advance_of, full_move, behind, is_ended, concat, Calls, read, call, last, rooms}
use Rattle.can_log.proofs.Steps.{choose, going, step_kinds, Kinds}
use Rattle.can_log.proofs.Runs.{on_last, on_more, run_fits}
use Rattle.can_log.proofs.Seams.{any_cutting}
use Rattle.can_log.proofs.stream.advance.Reads as advance

-- ---- how the log stands after a call

-- it has stopped; or it waits, which it does only before the input's end; or it is full
abbrev pub Stands : Bool → Standing → Type 0
Stands e s = (s ≡ Standing.stopped) ⊎ (((s ≡ Standing.waits) × (e ≡ false)) ⊎ (s ≡ Standing.full))

step_stands : (e : Bool) (log : Log) (m : Move) → Kinds e log m → goes_on m.status ≡ false → Stands e m.status
step_stands e log m (inl w) g = inr (inl (ap (λ (x : Move). x.status) w.0, w.1))
step_stands e log m (inr (inl d)) g = inl d
step_stands e log m (inr (inr w)) g = absurd (true≢false (sym (ap goes_on w.0) ∙ g))

run_stands : (f room : ℕ) (e : Bool) (log : Log) (s : List ℕ) → Stands e (run_on f room e log s).status
unfolding run_on
run_stands zero room e log s = inr (inr refl)
run_stands (suc f) room e log s =
    let m = step_of e log s in
    let r = room - length m.text in
    choose (λ (n : Move). Stands e n.status) (ltb room 512) (full_move log) _ (λ _. inr (inr refl))
    (λ _. choose (λ (n : Move). Stands e n.status) (goes_on m.status) (behind m (run_on f r e m.log (drop m.used s))) m
    (λ _. run_stands f r e m.log (drop m.used s)) (step_stands e log m (step_kinds e log s)))

pub stands : (room : ℕ) (e : Bool) (log : Log) (s : List ℕ) → Stands e (advance_of room e log s).status
stands room e log s = run_stands (suc (length s)) room e log s

-- no call leaves the log between two records that it could take
pub never_going : (room : ℕ) (e : Bool) (log : Log) (s : List ℕ) → goes_on (advance_of room e log s).status ≡ false
never_going room e log s = go (stands room e log s)
  where
    go : Stands e (advance_of room e log s).status → goes_on (advance_of room e log s).status ≡ false
    go (inl q) = ap goes_on q
    go (inr (inl q)) = ap goes_on q.0
    go (inr (inr q)) = ap goes_on q

never_full : (s : Standing) → s ≡ Standing.full → (s ≡ Standing.waits) ⊎ (s ≡ Standing.stopped) → ⊥
never_full s p (inl q) = let z : ◌≡◌ {A = ℕ} 0 1 = cc in absurd (omega arith)
never_full s p (inr q) = let z : ◌≡◌ {A = ℕ} 0 1 = cc in absurd (omega arith)

-- a call with the room that one record needs stops the log; or it waits, not being told of the end; or it is full, and took a byte at least
abbrev pub MovesOn : Bool → Move → Type 0
MovesOn e m = (m.status ≡ Standing.stopped) ⊎ (((m.status ≡ Standing.waits) × (e ≡ false)) ⊎ ((m.status ≡ Standing.full) × (1 ≤ m.used)))

module _ (room : ℕ) (e : Bool) (log : Log) (s : List ℕ) (h : 512 ≤ room) where
  full_took : (advance_of room e log s).status ≡ Standing.full → Kinds e log (step_of e log s) → 1 ≤ (advance_of room e log s).used
  full_took q (inl w) =
      absurd (never_full _ q (inl (ap (λ (n : Move). n.status) (on_last room e log s h (ap (λ (n : Move). goes_on n.status) w.0) ∙ w.0))))
  full_took q (inr (inl d)) = absurd (never_full _ q (inr (ap (λ (n : Move). n.status) (on_last room e log s h (ap goes_on d)) ∙ d)))
  full_took q (inr (inr g)) =
      let n = advance_of (room - length (step_of e log s).text) e (step_of e log s).log (drop (step_of e log s).used s) in
      let u : (advance_of room e log s).used ≡ (step_of e log s).used + n.used = ap (λ (x : Move). x.used) (on_more room e log s h (ap goes_on g.0)) in
      omega (arith, u, g.1)

  pub moves_on : MovesOn e (advance_of room e log s)
  moves_on = go (stands room e log s)
    where
      go : Stands e (advance_of room e log s).status → MovesOn e (advance_of room e log s)
      go (inl q) = inl q
      go (inr (inl q)) = inr (inl q)
      go (inr (inr q)) = inr (inr (q, full_took q (step_kinds e log s)))

-- ---- a log that waits has fewer than 72 bytes at hand: no record has more

abbrev Short : List ℕ → Front → Type 0
Short s i = i ≡ Front.incomplete → length s < 72

stop_whole : (s : List ℕ) (k : ℕ) → Short s (Front.fault k)
stop_whole s k q = let z : ◌≡◌ {A = ℕ} 0 1 = cc in absurd (omega arith)

record_whole : (s t : List ℕ) (k : Option Mark) → Short s (record_of t k)
unfolding settings_of define_of remove_of frame_of fd_frame_of
record_whole s t (Some Mark.Settings) = λ q. let z : ◌≡◌ {A = ℕ} 0 1 = cc in absurd (omega arith)
record_whole s t (Some Mark.Definition) =
    choose (Short s) (bad_flags (get_or t 6 0) (le16 t 22)) _ _ (λ _. stop_whole s 13) (λ _ q. let z : ◌≡◌ {A = ℕ} 0 1 = cc in absurd (omega arith))
record_whole s t (Some Mark.Removal) = λ q. let z : ◌≡◌ {A = ℕ} 0 1 = cc in absurd (omega arith)
record_whole s t (Some Mark.Frame) =
    choose (Short s) (leb 4 (get_or t 2 0)) _ _ (λ _. stop_whole s 13)
    (λ _. choose (Short s) (ltb 15 (get_or t 3 0)) _ _ (λ _. stop_whole s 14) (λ _ q. let z : ◌≡◌ {A = ℕ} 0 1 = cc in absurd (omega arith)))
record_whole s t (Some Mark.FdFrame) =
    choose (Short s) (leb 2 (get_or t 2 0)) _ _ (λ _. stop_whole s 13)
    (λ _. choose (Short s) (fd_length (get_or t 3 0)) _ _ (λ _ q. let z : ◌≡◌ {A = ℕ} 0 1 = cc in absurd (omega arith)) (λ _. stop_whole s 14))
record_whole s t None = stop_whole s 10

largest : (k : Option Mark) → size_of k ≤ 72
largest (Some Mark.Settings) = omega arith
largest (Some Mark.Definition) = omega arith
largest (Some Mark.Removal) = omega arith
largest (Some Mark.Frame) = omega arith
largest (Some Mark.FdFrame) = omega arith
largest None = omega arith

item_short : (n : ℕ) (s : List ℕ) → Short s (item_of n s)
unfolding item_of
item_short n s =
    let k = mark_of (get_or s 0 0) (get_or s 1 0) in
    choose (Short s) (eqb (length s) 0) _ _ (λ e _. omega (arith, eqb-true (length s) 0 e))
    (λ _. choose (Short s) (eqb n 4294967295) _ _ (λ _. stop_whole s 15)
    (λ _. choose (Short s) (eqb (length s) 1) _ _ (λ e _. omega (arith, eqb-true (length s) 1 e))
    (λ _. choose (Short s) (ltb (length s) (size_of k)) _ _ (λ e _. omega (arith, ltb-true (length s) (size_of k) e, largest k))
    (λ _. choose (Short s) (misplaced n k) _ _ (λ _. stop_whole s 12) (λ _. record_whole s (take (size_of k) s) k)))))

settled_goes : (log : Log) (e : SignalIdsEngine) (a : Result Unit TableError) → (settled_step log e a).status ≡ Standing.waits → ⊥
settled_goes log e (Ok done) q = let z : ◌≡◌ {A = ℕ} 0 1 = cc in omega arith
settled_goes log e (Err k) q = let z : ◌≡◌ {A = ℕ} 0 1 = cc in omega arith

item_waits : (e : Bool) (log : Log) (s : List ℕ) (i : Front) → (item_step e log s i).status ≡ Standing.waits → i ≡ Front.incomplete
item_waits e log s Front.incomplete q = refl
item_waits e log s (Front.fault k) q = cc
item_waits e log s (Front.settings a t) q = absurd (settled_goes log (created_by a t).engine (created_by a t).answer q)
item_waits e log s (Front.definition d) q = cc
item_waits e log s (Front.removal k) q = cc
item_waits e log s (Front.frame h) q = cc

step_short : (e : Bool) (log : Log) (s : List ℕ) → (step_of e log s).status ≡ Standing.waits → length s < 72
unfolding step_of
step_short e log s q = item_short log.count s (item_waits e log s (item_of log.count s) q)

run_short : (f room : ℕ) (e : Bool) (log : Log) (s : List ℕ) → length s < f → (run_on f room e log s).status ≡ Standing.waits → length s - (run_on f room e log s).used < 72
unfolding run_on
run_short zero room e log s h = absurd (omega arith)
run_short (suc f) room e log s h =
    let m = step_of e log s in
    let r = room - length m.text in
    let Few : Move → Type 0 = λ (x : Move). x.status ≡ Standing.waits → length s - x.used < 72 in
    choose Few (ltb room 512) (full_move log) _ (λ _ q. let z : ◌≡◌ {A = ℕ} 0 1 = cc in absurd (omega arith))
    (λ _. choose Few (goes_on m.status) (behind m (run_on f r e m.log (drop m.used s))) m
    (λ g q. let l = going e log s g in
    omega (arith, l, length-drop m.used s, run_short f r e m.log (drop m.used s) (omega (arith, l, length-drop m.used s)) q))
    (λ _ q. omega (arith, step_short e log s q)))

pub waits_short : (room : ℕ) (e : Bool) (log : Log) (s : List ℕ) → (advance_of room e log s).status ≡ Standing.waits → length s - (advance_of room e log s).used < 72
waits_short room e log s q = run_short (suc (length s)) room e log s (omega arith) q

-- ---- THE THEOREM: whatever log, bytes at hand and pieces, and whatever the rooms, each enough for one record, a run exists that ends.
-- It reads a piece where the log waits, and tells the end where no piece is left.

-- the n-th call has the room that the n-th of the rooms is
abbrev pub Roomy : (ℕ → ℕ) → List ℕ → Type 0
Roomy room l = (n : ℕ) → n < length l → get_or l n 0 ≡ room n

pub record Run (room : ℕ → ℕ) (log : Log) (p : List ℕ) (xs : List (List ℕ)) : Type 0 where
  pub text : List ℕ
  pub calls : Calls log p xs text
  pub roomy : Roomy room (rooms calls)

one_room : (room : ℕ → ℕ) → Roomy room (room 0 ∷ [])
one_room room zero h = refl
one_room room (suc n) h = absurd (omega arith)

more_rooms : (room : ℕ → ℕ) (l : List ℕ) → Roomy (λ n. room (suc n)) l → Roomy room (room 0 ∷ l)
more_rooms room l r zero h = refl
more_rooms room l r (suc n) h = r n (omega arith)

-- a last call
ends : (room : ℕ → ℕ) (e : Bool) (log : Log) (p : List ℕ) (xs : List (List ℕ)) → (e ≡ true → concat xs ≡ []) → (advance_of (room 0) e log p).status ≡ Standing.stopped
    → Run room log p xs
ends room e log p xs h d = record { text = _; calls = last (room 0) e h (advance_of (room 0) e log p) refl (ap is_ended d); roomy = one_room room }

-- a call and a run behind it
goes_on_lem : (room : ℕ → ℕ) (e : Bool) (log : Log) (p : List ℕ) (xs : List (List ℕ)) → (e ≡ true → concat xs ≡ []) → is_ended (advance_of (room 0) e log p).status ≡ false
    → let m = advance_of (room 0) e log p in Run (λ n. room (suc n)) m.log (drop m.used p) xs → Run room log p xs
goes_on_lem room e log p xs h d r =
    record { text = _; calls = call (room 0) e h (advance_of (room 0) e log p) refl d r.calls; roomy = more_rooms room (rooms r.calls) r.roomy }

-- a piece is read first
reads : (room : ℕ → ℕ) (log : Log) (p x : List ℕ) (xs : List (List ℕ)) → Run room log (p ++ x) xs → Run room log p (x ∷ xs)
reads room log p x xs r = record { text = _; calls = read r.calls; roomy = r.roomy }

-- by the bytes and the pieces that are left
abbrev Below : ℕ → Type 0
Below f = (room : ℕ → ℕ) → ((n : ℕ) → 512 ≤ room n) → (log : Log) (p : List ℕ) (xs : List (List ℕ)) → length p + length (concat xs) + length xs < f → Run room log p xs

never : {A : Type 0} → false ≡ true → A
never z = absurd (true≢false (sym z))

module _ (f : ℕ) (less : Below f) (room : ℕ → ℕ) (h : (n : ℕ) → 512 ≤ room n) (log : Log) (p : List ℕ) where
  -- nothing is left to read
  from_last : length p < suc f → MovesOn true (advance_of (room 0) true log p) → Run room log p []
  from_last l (inl q) = ends room true log p [] (λ _. refl) q
  from_last l (inr (inl q)) = never (sym q.1)
  from_last l (inr (inr q)) =
      let m = advance_of (room 0) true log p in
      goes_on_lem room true log p [] (λ _. refl) (ap is_ended q.0)
      (less (λ n. room (suc n)) (λ n. h (suc n)) m.log (drop m.used p) []
      (omega (arith, length-drop m.used p, q.1, (run_fits (suc (length p)) (room 0) true log p).0)))

  from_more : (x : List ℕ) (xs : List (List ℕ)) → length p + length (concat (x ∷ xs)) + length (x ∷ xs) < suc f → MovesOn false (advance_of (room 0) false log p)
      → Run room log p (x ∷ xs)
  from_more x xs l (inl q) = ends room false log p (x ∷ xs) never q
  from_more x xs l (inr (inl q)) =
      let m = advance_of (room 0) false log p in
      goes_on_lem room false log p (x ∷ xs) never (ap is_ended q.0)
      (reads (λ n. room (suc n)) m.log (drop m.used p) x xs
      (less (λ n. room (suc n)) (λ n. h (suc n)) m.log (drop m.used p ++ x) xs
      (omega (arith, length-append (drop m.used p) x, length-append x (concat xs), length-drop m.used p))))
  from_more x xs l (inr (inr q)) =
      let m = advance_of (room 0) false log p in
      goes_on_lem room false log p (x ∷ xs) never (ap is_ended q.0)
      (less (λ n. room (suc n)) (λ n. h (suc n)) m.log (drop m.used p) (x ∷ xs)
      (omega (arith, length-drop m.used p, q.1, (run_fits (suc (length p)) (room 0) false log p).0)))

to_end : (f : ℕ) → Below f
to_end zero room h log p xs l = absurd (omega arith)
to_end (suc f) room h log p [] l = from_last f (to_end f) room h log p (omega arith) (moves_on (room 0) true log p (h 0))
to_end (suc f) room h log p (x ∷ xs) l = from_more f (to_end f) room h log p x xs l (moves_on (room 0) false log p (h 0))

pub runs : (room : ℕ → ℕ) → ((n : ℕ) → 512 ≤ room n) → (log : Log) (p : List ℕ) (xs : List (List ℕ)) → Run room log p xs
runs room h log p xs = to_end (suc (length p + length (concat xs) + length xs)) room h log p xs (omega arith)

-- from the start on, with nothing at hand: it prints the output of the pieces joined
pub run-output : (room : ℕ → ℕ) (h : (n : ℕ) → 512 ≤ room n) (xs : List (List ℕ)) → (runs room h start_of [] xs).text ≡ output (concat xs)
run-output room h xs = any_cutting xs (runs room h start_of [] xs).text (runs room h start_of [] xs).calls

-- ---- a compiled call of `advance` is a call of a run: all that is known of it is its promise, `advance.Learnt`. κs are its lifetimes, x is what its
-- parameters are at exit, and what it printed stands at the front of the buffer, up to the place that it answered.

-- the text at the front of a buffer
front_of : {d e t : List ℕ} {r : ℕ} → Put d 0 t r e → length t ≤ length d → take r e ≡ t
front_of {d} {e} {t} {r} p h =
    let n : length t ≡ r = omega (arith, p.stop) in
    ap (take r) (p.done ∙ sets-eq t d 0 (omega arith)) ∙ take_at t (drop (0 + length t) d) r n

module _ (κs : Lfts 2) (log : Log) (s : _) (ended : Bool) (out : _) (r : Step) (x : _) (w : advance.Learnt κs (log, (s, (ended, (out, tt)))) r x) where
  abbrev made : Move
  made = advance_of (length out.now) ended log s.now

  printed : take r.end x.1.1.1.0.now ≡ made.text
  printed = front_of w.put (run_fits (suc (length s.now)) (length out.now) ended log s.now).1

  -- the log goes on: a run behind the call is a run from before it
  pub call_promised : (xs : List (List ℕ)) (t : List ℕ) → (ended ≡ true → concat xs ≡ []) → is_ended (status_means r.status) ≡ false
      → Calls r.log (drop r.used s.now) xs t → Calls log s.now xs (take r.end x.1.1.1.0.now ++ t)
  call_promised xs t h d c =
      let c' : Calls made.log (drop made.used s.now) xs t = rw (← w.log, ← w.used) c in
      rw printed (call (length out.now) ended h made refl (sym (ap is_ended w.status) ∙ d) c')

  -- the log has stopped
  pub last_promised : (xs : List (List ℕ)) → (ended ≡ true → concat xs ≡ []) → is_ended (status_means r.status) ≡ true
      → Calls log s.now xs (take r.end x.1.1.1.0.now)
  last_promised xs h d = rw printed (last (length out.now) ended h made refl (sym (ap is_ended w.status) ∙ d))
