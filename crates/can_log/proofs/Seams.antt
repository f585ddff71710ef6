-- Where a read of the input ended never shows: `seam` for one call, `any_cutting` for any run of them. Assumes nothing.
use mathlib.Core.Path.{◌≡◌, refl, sym, ◌∙◌, ap}
use mathlib.Core.Bool.{Bool, true, false, cond}
use mathlib.Core.List.{List, [], ◌∷◌, ◌++◌, append_assoc, append-nil}
use mathlib.Core.Logic.{◌⊎◌, inl, inr}
use Prim.Native.Nat.{ℕ, zero, suc, ◌+◌, ◌-◌, ◌≤◌}
use native.Mathlib.Omega.{arith}
use lib.ListN.{length, take, drop, length-append, length-drop}
use lib.Seq.{drop-drop, drop-append-le, take-append-le}
use lib.Dec.{ltb, eqb}
use borrow.Author.Tests.{le-ltb, ltb-false, ne_eqb, eqb-true, eqb-false}
use Rattle.frames.specs.Frames.{frame_with}
use Rattle.std.specs.Prelude.{Option}
use Rattle.can_log.specs.declared.decode.Mark.{Mark}
use Rattle.can_log.specs.declared.stream.Log.{Log}
use Rattle.can_log.specs.Records.{Front, item_of, marked, mark_of, size_of}
use Rattle.can_log.specs.Output.{Standing, Move, step_of, item_step, frame_step, data_size, frame_size, goes_on, output_from, output, start_of, waiting}
use Rattle.can_log.specs.Pieces.{run_on, advance_of, full_move, behind, is_ended, left, concat, Calls, read, call, last}
use Rattle.can_log.proofs.Front.{placed}
use Rattle.can_log.proofs.Steps.{going, step_kinds, Kinds, item_taken, taken}
use Rattle.can_log.proofs.Runs.{output_step}

-- ---- more bytes change nothing at the front but what is incomplete

placed_stable : (n : ℕ) (s t : List ℕ) (k : Option Mark) → (marked n s k ≡ Front.incomplete) ⊎ (marked n (s ++ t) k ≡ marked n s k)
placed_stable n s t k = go (ltb (length s) (size_of k)) refl
  where
    go : (b : Bool) → ltb (length s) (size_of k) ≡ b → (marked n s k ≡ Front.incomplete) ⊎ (marked n (s ++ t) k ≡ marked n s k)
    go true q = inl (rw q refl)
    go false q =
        let h : size_of k ≤ length s = ltb-false (length s) (size_of k) q in
        let h' : size_of k ≤ length (s ++ t) = omega (arith, length-append s t) in
        inr (rw (q, le-ltb (length (s ++ t)) (size_of k) h', take-append-le (size_of k) s t h) refl)

-- after 4,294,967,295 records more bytes give 15, whatever they are
pub last_count : (n : ℕ) (s : List ℕ) → (length s ≡ 0 → ⊥) → n ≡ 4294967295 → item_of n s ≡ Front.fault 15
unfolding item_of
last_count n s h q = rw (ne_eqb (length s) 0 h, q) refl

one_byte : (n : ℕ) (a : ℕ) → (n ≡ 4294967295 → ⊥) → item_of n (a ∷ []) ≡ Front.incomplete
unfolding item_of
one_byte n a h = rw (ne_eqb n 4294967295 h) refl

no_byte : (n : ℕ) → item_of n [] ≡ Front.incomplete
unfolding item_of
no_byte n = refl

pub stable : (n : ℕ) (s t : List ℕ) → (item_of n s ≡ Front.incomplete) ⊎ (item_of n (s ++ t) ≡ item_of n s)
stable n [] t = inl (no_byte n)
stable n (a ∷ []) t = go (eqb n 4294967295) refl
  where
    go : (b : Bool) → eqb n 4294967295 ≡ b → (item_of n (a ∷ []) ≡ Front.incomplete) ⊎ (item_of n (a ∷ t) ≡ item_of n (a ∷ []))
    go true q =
        let e = eqb-true n 4294967295 q in
        inr (last_count n (a ∷ t) (λ z. omega arith) e ∙ sym (last_count n (a ∷ []) (λ z. omega arith) e))
    go false q = inl (one_byte n a (eqb-false n 4294967295 q))
stable n (a ∷ b ∷ s) t = go (eqb n 4294967295) refl
  where
    go : (c : Bool) → eqb n 4294967295 ≡ c → (item_of n (a ∷ b ∷ s) ≡ Front.incomplete) ⊎ (item_of n (a ∷ b ∷ (s ++ t)) ≡ item_of n (a ∷ b ∷ s))
    go true q =
        let e = eqb-true n 4294967295 q in
        inr (last_count n (a ∷ b ∷ (s ++ t)) (λ z. omega arith) e ∙ sym (last_count n (a ∷ b ∷ s) (λ z. omega arith) e))
    go false q =
        let h = eqb-false n 4294967295 q in
        let p = placed n (a ∷ b ∷ s) (λ z. omega arith) h (λ z. omega arith) in
        let p' = placed n (a ∷ b ∷ (s ++ t)) (λ z. omega arith) h (λ z. omega arith) in
        cond p p' (placed_stable n (a ∷ b ∷ s) t (mark_of a b))
      where
        cond : item_of n (a ∷ b ∷ s) ≡ marked n (a ∷ b ∷ s) (mark_of a b) → item_of n (a ∷ b ∷ (s ++ t)) ≡ marked n (a ∷ b ∷ (s ++ t)) (mark_of a b)
            → (marked n (a ∷ b ∷ s) (mark_of a b) ≡ Front.incomplete) ⊎ (marked n (a ∷ b ∷ (s ++ t)) (mark_of a b) ≡ marked n (a ∷ b ∷ s) (mark_of a b))
            → (item_of n (a ∷ b ∷ s) ≡ Front.incomplete) ⊎ (item_of n (a ∷ b ∷ (s ++ t)) ≡ item_of n (a ∷ b ∷ s))
        cond p p' (inl w) = inl (p ∙ w)
        cond p p' (inr w) = inr (p' ∙ w ∙ sym p)

-- ---- nor a step but one that waits

item_same : (log : Log) (s t : List ℕ) (i : Front) → taken i ≤ length s → (item_step false log s i ≡ waiting log) ⊎ (item_step true log (s ++ t) i ≡ item_step false log s i)
item_same log s t Front.incomplete h = inl refl
item_same log s t (Front.fault k) h = inr refl
item_same log s t (Front.settings a u) h = inr refl
item_same log s t (Front.definition d) h = inr refl
item_same log s t (Front.removal k) h = inr refl
item_same log s t (Front.frame f) h =
    let n = data_size f in
    let l : 8 ≤ length s = omega arith in
    let l' : n ≤ length (drop 8 s) = omega (arith, length-drop 8 s) in
    inr (ap (λ (x : List ℕ). frame_step log (frame_size f) (frame_with f x)) (ap (take n) (drop-append-le 8 s t l) ∙ take-append-le n (drop 8 s) t l'))

pub step_stable : (e : Bool) (log : Log) (s t : List ℕ) → (e ≡ true → t ≡ []) → (step_of e log s ≡ waiting log) ⊎ (step_of true log (s ++ t) ≡ step_of e log s)
unfolding step_of
step_stable true log s t h = inr (ap (step_of true log) (ap (λ (u : List ℕ). s ++ u) (h refl) ∙ append-nil s))
step_stable false log s t h = go (stable log.count s t)
  where
    go : (item_of log.count s ≡ Front.incomplete) ⊎ (item_of log.count (s ++ t) ≡ item_of log.count s) → (step_of false log s ≡ waiting log) ⊎ (step_of true log (s ++ t) ≡ step_of false log s)
    go (inl q) = inl (ap (item_step false log s) q)
    go (inr q) = cond (item_same log s t (item_of log.count s) (item_taken log.count s))
      where
        cond : (item_step false log s (item_of log.count s) ≡ waiting log) ⊎ (item_step true log (s ++ t) (item_of log.count s) ≡ item_step false log s (item_of log.count s))
            → (step_of false log s ≡ waiting log) ⊎ (step_of true log (s ++ t) ≡ step_of false log s)
        cond (inl w) = inl w
        cond (inr w) = inr (ap (item_step true log (s ++ t)) q ∙ w)

-- ---- one call

-- what a move printed, and what is still to be printed behind it
abbrev pub whole : Move → List ℕ → List ℕ → List ℕ
whole m s t = m.text ++ left m (drop m.used s ++ t)

-- a move behind a move
two : (m n : Move) (s t : List ℕ) → whole (behind m n) s t ≡ m.text ++ whole n (drop m.used s) t
two m n s t =
    append_assoc m.text n.text (left n (drop (m.used + n.used) s ++ t))
    ∙ ap (λ (l : List ℕ). m.text ++ (n.text ++ left n (l ++ t))) (sym (drop-drop n.used m.used s))

-- a step that goes on, a run n behind it
more : (e : Bool) (log : Log) (s t : List ℕ) (n : Move) → step_of true log (s ++ t) ≡ step_of e log s → goes_on (step_of e log s).status ≡ true
    → whole n (drop (step_of e log s).used s) t ≡ output_from (step_of e log s).log (drop (step_of e log s).used s ++ t)
    → whole (behind (step_of e log s) n) s t ≡ output_from log (s ++ t)
more e log s t n q g ih =
    let m = step_of e log s in
    two m n s t
    ∙ ap (λ (l : List ℕ). m.text ++ l) (ih ∙ ap (output_from m.log) (sym (drop-append-le m.used s t (going e log s g).1)))
    ∙ sym (output_step log (s ++ t) ∙ rw (q, g) refl)

-- a last step
final : (e : Bool) (log : Log) (s t : List ℕ) → step_of true log (s ++ t) ≡ step_of e log s → (step_of e log s).status ≡ Standing.stopped
    → whole (step_of e log s) s t ≡ output_from log (s ++ t)
final e log s t q d = rw d (sym (output_step log (s ++ t) ∙ rw (q, d) refl))

waits : (log : Log) (s t : List ℕ) (m : Move) → m ≡ waiting log → whole m s t ≡ output_from log (s ++ t)
waits log s t m q = rw q refl

-- the step m of a run with room, by what it may be
stepped : (e : Bool) (log : Log) (s t : List ℕ) (n : Move)
    → whole n (drop (step_of e log s).used s) t ≡ output_from (step_of e log s).log (drop (step_of e log s).used s ++ t)
    → (step_of e log s ≡ waiting log) ⊎ (step_of true log (s ++ t) ≡ step_of e log s)
    → Kinds e log (step_of e log s)
    → whole (cond (goes_on (step_of e log s).status) (behind (step_of e log s) n) (step_of e log s)) s t ≡ output_from log (s ++ t)
stepped e log s t n ih (inl w) k = rw (ap (λ (m : Move). goes_on m.status) w) (waits log s t (step_of e log s) w)
stepped e log s t n ih (inr q) (inl w) = rw (ap (λ (m : Move). goes_on m.status) w.0) (waits log s t (step_of e log s) w.0)
stepped e log s t n ih (inr q) (inr (inl d)) = rw (ap goes_on d) (final e log s t q d)
stepped e log s t n ih (inr q) (inr (inr g)) = rw (ap goes_on g.0) (more e log s t n q (ap goes_on g.0) ih)

full_or : (b : Bool) (log : Log) (s t : List ℕ) (m : Move) → whole m s t ≡ output_from log (s ++ t) → whole (cond b (full_move log) m) s t ≡ output_from log (s ++ t)
full_or true log s t m h = refl
full_or false log s t m h = h

-- whatever comes behind the bytes at hand: what a call printed, with what is printed from where it left, is what is printed of all
run_seam : (f room : ℕ) (e : Bool) (log : Log) (s t : List ℕ) → (e ≡ true → t ≡ []) → whole (run_on f room e log s) s t ≡ output_from log (s ++ t)
unfolding run_on
run_seam zero room e log s t h = refl
run_seam (suc f) room e log s t h =
    let m = step_of e log s in
    let r = room - length m.text in
    let n = run_on f r e m.log (drop m.used s) in
    full_or (ltb room 512) log s t (cond (goes_on m.status) (behind m n) m)
    (stepped e log s t n (run_seam f r e m.log (drop m.used s) t h) (step_stable e log s t h) (step_kinds e log s))

pub seam : (room : ℕ) (e : Bool) (log : Log) (s t : List ℕ) → (e ≡ true → t ≡ [])
    → let m = advance_of room e log s in m.text ++ left m (drop m.used s ++ t) ≡ output_from log (s ++ t)
seam room e log s t h = run_seam (suc (length s)) room e log s t h

-- ---- any run of calls

seam_on : (room : ℕ) (e : Bool) (log : Log) (p t u : List ℕ) (m : Move) → (e ≡ true → t ≡ []) → m ≡ advance_of room e log p → is_ended m.status ≡ false
    → u ≡ output_from m.log (drop m.used p ++ t) → m.text ++ u ≡ output_from log (p ++ t)
seam_on room e log p t u m h q d ih =
    let w : m.text ++ left m (drop m.used p ++ t) ≡ output_from log (p ++ t) = rw q (seam room e log p t h) in
    rw ih (rw d at w)

seam_last : (room : ℕ) (e : Bool) (log : Log) (p t : List ℕ) (m : Move) → (e ≡ true → t ≡ []) → m ≡ advance_of room e log p → is_ended m.status ≡ true
    → m.text ≡ output_from log (p ++ t)
seam_last room e log p t m h q d =
    let w : m.text ++ left m (drop m.used p ++ t) ≡ output_from log (p ++ t) = rw q (seam room e log p t h) in
    sym (append-nil m.text) ∙ (rw d at w)

-- whatever the pieces and the rooms are, the calls print what is printed of the pieces joined
pub calls : {log : Log} {p : List ℕ} {xs : List (List ℕ)} {u : List ℕ} → Calls log p xs u → u ≡ output_from log (p ++ concat xs)
calls {log} (read {p = p} {x = x} {xs = xs} c) = calls c ∙ ap (output_from log) (append_assoc p x (concat xs))
calls {log} {p} {xs} (call {t = t} room e h m q d c) = seam_on room e log p (concat xs) t m h q d (calls c)
calls {log} {p} {xs} (last room e h m q d) = seam_last room e log p (concat xs) m h q d

-- THE THEOREM: for any cutting of the input into pieces, and any rooms, what the calls print joined is the output of the whole
pub any_cutting : (xs : List (List ℕ)) (u : List ℕ) → Calls start_of [] xs u → u ≡ output (concat xs)
any_cutting xs u c = calls c
