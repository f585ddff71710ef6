-- The runs: their fuel does not show, so each is its first step and the run behind it; and the loop of `advance`. Assumes nothing.
use mathlib.Core.Path.{◌≡◌, refl, sym, ◌∙◌, ap, subst}
use mathlib.Core.Bool.{Bool, true, false, cond}
use mathlib.Core.List.{List, [], ◌++◌, append_assoc, append-nil}
use Prim.Native.Nat.{ℕ, zero, suc, ◌+◌, ◌-◌, ◌*◌, ◌^◌, ◌<◌, ◌≤◌}
use native.Mathlib.Omega.{arith}
use lib.ListN.{length, take, drop, length-append, length-drop}
use lib.Seq.{drop-drop, length-sets, take_all, length-take-le}
use lib.Dec.{ltb}
use borrow.Author.Tests.{le-ltb, lt-ltb, ltb-false}
use Rattle.io.specs.Counts.{IsPrefixLen}
use Rattle.frames.specs.declared.Processed.{Processed}
use Rattle.frames.specs.declared.FrameHeader.{FrameHeader}
use Rattle.frames.specs.Frames.{frame_with, Framed, processed_means}
use Rattle.can_log.specs.declared.decode.Request.{Request}
use Rattle.std.specs.Prelude.{Option, Some, None, Result, Ok, Err}
use Rattle.can_log.specs.declared.decode.Stop.{Stop}
use Rattle.can_log.specs.declared.decode.Item.{Item}
use Rattle.can_log.specs.declared.stream.Log.{Log}
use Rattle.can_log.specs.declared.stream.Status.{Status}
use Rattle.can_log.specs.declared.stream.Step.{Step}
use Rattle.can_log.specs.Records.{stop_number, item_means, request_means, item_of}
use Rattle.can_log.specs.Lines.{Put, anomaly_lines}
use Rattle.can_log.specs.Output.{Standing, status_means, processed_by, data_size, frame_size, data_of, Move, step_of, goes_on, run, output_from, stop_step, wait_step, request_step, frame_step}
use Rattle.can_log.specs.Pieces.{Does, run_on, advance_of, full_move, behind, after, sound_of}
use Rattle.can_log.proofs.Texts.{then, named, nothing}
use Rattle.can_log.proofs.Steps.{going, choose, does, at_item, at_request, has, counts_on, asks, step_count, step_length, step_used}

-- a choice whose first side matters only where the test holds
pub when {ℓ} : {A : Type ℓ} (b : Bool) (x y z : A) → (b ≡ true → x ≡ y) → cond b x z ≡ cond b y z
when true x y z h = h refl
when false x y z h = refl

shorter : (e : Bool) (log : Log) (s : List ℕ) (f : ℕ) → goes_on (step_of e log s).status ≡ true → length s < suc f → length (drop (step_of e log s).used s) < f
shorter e log s f h l = omega (arith, length-drop (step_of e log s).used s, going e log s h)

pub run_fuel : (f g : ℕ) (log : Log) (s : List ℕ) → length s < f → length s < g → run f log s ≡ run g log s
unfolding run
run_fuel zero g log s a b = absurd (omega arith)
run_fuel (suc f) zero log s a b = absurd (omega arith)
run_fuel (suc f) (suc g) log s a b =
    let m = step_of true log s in
    ap (λ (t : List ℕ). m.text ++ t)
    (when (goes_on m.status) (run f m.log (drop m.used s)) (run g m.log (drop m.used s)) []
    (λ h. run_fuel f g m.log (drop m.used s) (shorter true log s f h a) (shorter true log s g h b)))

-- what is printed: what the first step prints, and what is printed from there
pub output_step : (log : Log) (s : List ℕ) → let m = step_of true log s in
    output_from log s ≡ m.text ++ cond (goes_on m.status) (output_from m.log (drop m.used s)) []
unfolding run
output_step log s =
    let m = step_of true log s in
    ap (λ (t : List ℕ). m.text ++ t)
    (when (goes_on m.status) (run (length s) m.log (drop m.used s)) (output_from m.log (drop m.used s)) []
    (λ h. run_fuel (length s) (suc (length (drop m.used s))) m.log (drop m.used s) (shorter true log s (length s) h (omega arith)) (omega arith)))

pub on_fuel : (f g room : ℕ) (e : Bool) (log : Log) (s : List ℕ) → length s < f → length s < g → run_on f room e log s ≡ run_on g room e log s
unfolding run_on
on_fuel zero g room e log s a b = absurd (omega arith)
on_fuel (suc f) zero room e log s a b = absurd (omega arith)
on_fuel (suc f) (suc g) room e log s a b =
    let m = step_of e log s in
    let r = room - length m.text in
    ap (λ (n : Move). cond (ltb room 512) (full_move log) n)
    (when (goes_on m.status) (behind m (run_on f r e m.log (drop m.used s))) (behind m (run_on g r e m.log (drop m.used s))) m
    (λ h. ap (behind m) (on_fuel f g r e m.log (drop m.used s) (shorter e log s f h a) (shorter e log s g h b))))

module _ (room : ℕ) (e : Bool) (log : Log) (s : List ℕ) where
  -- no room
  pub on_full : room < 512 → advance_of room e log s ≡ full_move log
  unfolding run_on
  on_full h = rw (lt-ltb room 512 h) refl

  -- a last step
  pub on_last : 512 ≤ room → goes_on (step_of e log s).status ≡ false → advance_of room e log s ≡ step_of e log s
  unfolding run_on
  on_last h q = rw (le-ltb room 512 h, q) refl

  -- a step that goes on
  pub on_more : 512 ≤ room → goes_on (step_of e log s).status ≡ true
      → advance_of room e log s ≡ behind (step_of e log s) (advance_of (room - length (step_of e log s).text) e (step_of e log s).log (drop (step_of e log s).used s))
  unfolding run_on
  on_more h q =
      let m = step_of e log s in
      rw (le-ltb room 512 h, q)
      (ap (behind m) (on_fuel (length s) (suc (length (drop m.used s))) (room - length m.text) e m.log (drop m.used s) (shorter e log s (length s) q (omega arith)) (omega arith)))

-- a record that was found, as the code takes the answer apart
pub found : {r : Result (Option Item) Stop} {a : Option Item} {b i : Item} → r ≡ Ok a → a ≡ Some b → b ≡ i → r ≡ Ok (Some i)
found p q w = p ∙ ap (λ (x : Option Item). Ok x) (q ∙ ap (λ (x : Item). Some x) w)

-- ---- the loop of `advance`: after some turns, t printed, the log at log, used bytes taken and end bytes written, the rest of the work is the run from there

abbrev pub sofar : Log → ℕ → List ℕ → Move
sofar log used t = record { log = log; used = used; text = t; status = Standing.goes }

pub nothing_yet : (m : Move) (log : Log) → m ≡ behind (sofar log 0 []) m
nothing_yet m log = ap (λ (k : ℕ). record { log = m.log; used = k; text = m.text; status = m.status }) (omega arith)

-- a turn that goes on
pub turn : (a : Move) (room end : ℕ) (e : Bool) (log : Log) (s : List ℕ) (used : ℕ) (t : List ℕ) → 512 ≤ room - end
    → goes_on (step_of e log (drop used s)).status ≡ true
    → a ≡ behind (sofar log used t) (advance_of (room - end) e log (drop used s))
    → let m = step_of e log (drop used s) in
    a ≡ behind (sofar m.log (used + m.used) (t ++ m.text)) (advance_of (room - (end + length m.text)) e m.log (drop (used + m.used) s))
turn a room end e log s used t h g q =
    let m = step_of e log (drop used s) in
    let r : room - end - length m.text ≡ room - (end + length m.text) = omega arith in
    let n = advance_of (room - (end + length m.text)) e m.log (drop (used + m.used) s) in
    let k : used + (m.used + n.used) ≡ used + m.used + n.used = omega arith in
    q ∙ ap (behind (sofar log used t)) (on_more (room - end) e log (drop used s) h g)
    ∙ ap (λ (x : Move). behind (sofar log used t) (behind m x))
    (ap (λ (j : ℕ). advance_of j e m.log (drop m.used (drop used s))) r ∙ ap (advance_of (room - (end + length m.text)) e m.log) (drop-drop m.used used s))
    ∙ ap (λ (j : ℕ). record { log = n.log; used = j; text = t ++ (m.text ++ n.text); status = n.status }) k
    ∙ ap (λ (l : List ℕ). record { log = n.log; used = used + m.used + n.used; text = l; status = n.status }) (sym (append_assoc t m.text n.text))

-- the last turn
pub turn_last : (a : Move) (room end : ℕ) (e : Bool) (log : Log) (s : List ℕ) (used : ℕ) (t : List ℕ) → 512 ≤ room - end
    → goes_on (step_of e log (drop used s)).status ≡ false
    → a ≡ behind (sofar log used t) (advance_of (room - end) e log (drop used s))
    → a ≡ behind (sofar log used t) (step_of e log (drop used s))
turn_last a room end e log s used t h g q = q ∙ ap (behind (sofar log used t)) (on_last (room - end) e log (drop used s) h g)

-- no room for another
pub turn_full : (a : Move) (room end : ℕ) (e : Bool) (log : Log) (s : List ℕ) (used : ℕ) (t : List ℕ) → room - end < 512
    → a ≡ behind (sofar log used t) (advance_of (room - end) e log (drop used s))
    → a ≡ record { log = log; used = used; text = t; status = Standing.full }
turn_full a room end e log s used t h q =
    q ∙ ap (behind (sofar log used t)) (on_full (room - end) e log (drop used s) h)
    ∙ ap (λ (j : ℕ). record { log = log; used = j; text = t ++ []; status = Standing.full }) (omega arith)
    ∙ ap (λ (l : List ℕ). record { log = log; used = used; text = l; status = Standing.full }) (append-nil t)

-- what holds at the loop's head
pub record Turned (s : List ℕ) (e : Bool) (d : List ℕ) (log₀ : Log) (out : List ℕ) (log : Log) (used end : ℕ) : Type 0 where
  pub few_enough : log.count < 2 ^ 32
  pub got : used ≤ length s
  pub wrote : end ≤ length out
  pub long : length out ≡ length d
  pub text : List ℕ
  pub put : Put d 0 text end out
  pub rest : advance_of (length d) e log₀ s ≡ behind (sofar log used text) (advance_of (length d - end) e log (drop used s))

pub first-turn : (s : List ℕ) (e : Bool) (d : List ℕ) (log : Log) → log.count < 2 ^ 32 → Turned s e d log d log 0 0
first-turn s e d log h =
    let z : length d ≡ length d - 0 = omega arith in
    record {
      few_enough = h;
      got = omega arith;
      wrote = omega arith;
      long = refl;
      text = [];
      put = nothing d 0;
      rest = nothing_yet (advance_of (length d) e log s) log ∙ ap (λ (j : ℕ). behind (sofar log 0 []) (advance_of j e log s)) z;
    }

wait_last : (e : Bool) (log : Log) (n : ℕ) → goes_on (wait_step e log n).status ≡ false
wait_last true log n = refl
wait_last false log n = refl

-- the bytes that are left, as the code lends them
part_all : (s : List ℕ) (k : ℕ) → take (length s - k) (drop k s) ≡ drop k s
part_all s k = take_all (length s - k) (drop k s) (omega (arith, length-drop k s))

module _ {s : List ℕ} {e : Bool} {d : List ℕ} {log₀ : Log} {out : List ℕ} {log : Log} {used end : ℕ} (w : Turned s e d log₀ out log used end) where
  -- no room for another record
  pub full : length out - end < 512 → Does d 0 (advance_of (length d) e log₀ s) (record { log = log; used = used; end = end; status = Status.Full }) out
  full h =
      let h' : length d - end < 512 = rw (← w.long) h in
      rw (turn_full (advance_of (length d) e log₀ s) (length d) end e log s used w.text h' w.rest)
      (record { log = refl; used = refl; put = w.put; status = refl })

  module _ (room : 512 ≤ length out - end) where
    roomy : 512 ≤ length d - end
    roomy = rw (← w.long) room

    -- a record m that goes on
    module _ (m : Move) (here : m ≡ step_of e log (drop used s)) {r : Step} {out' : List ℕ} (p : Does out end m r out') where
      used_in : used + r.used ≤ length s
      used_in = omega (arith, p.used, ap (λ (x : Move). x.used) here, step_used e log (drop used s), length-drop used s, w.got)

      kept : length out' ≡ length out
      kept = ap length p.put.done ∙ length-sets out end m.text

      more : goes_on (status_means r.status) ≡ true → Turned s e d log₀ out' r.log (used + r.used) r.end
      more g =
          let p' : Does out end (step_of e log (drop used s)) r out' = does here p in
          let g' : goes_on (step_of e log (drop used s)).status ≡ true = sym (ap goes_on p'.status) ∙ g in
          record {
            few_enough = rw p'.log (step_count e log (drop used s) w.few_enough);
            got = used_in;
            wrote = omega (arith, p'.put.stop, step_length e log (drop used s), kept, room);
            long = kept ∙ w.long;
            text = w.text ++ (step_of e log (drop used s)).text;
            put = then w.put p'.put;
            rest = rw (p'.log, p'.used, p'.put.stop) (turn (advance_of (length d) e log₀ s) (length d) end e log s used w.text roomy g' w.rest);
          }

      less : goes_on (status_means r.status) ≡ true → length s - (used + r.used) < length s - used
      less g =
          let p' : Does out end (step_of e log (drop used s)) r out' = does here p in
          let l = going e log (drop used s) (sym (ap goes_on p'.status) ∙ g) in
          omega (arith, l, p'.used, length-drop used s, w.got)

    -- a record m that is the last: its answer counts the bytes taken before it
    last_turn : (m : Move) → m ≡ step_of e log (drop used s) → goes_on m.status ≡ false → {r : Step} {out' : List ℕ} → Does out end (after used m) r out'
        → Does d 0 (advance_of (length d) e log₀ s) r out'
    last_turn m here g p =
        let q = turn_last (advance_of (length d) e log₀ s) (length d) end e log s used w.text roomy (sym (ap (λ (x : Move). goes_on x.status) here) ∙ g) w.rest in
        rw (q, ← here) (record { log = p.log; used = p.used; put = then w.put p.put; status = p.status })

    -- ---- by what stands at the front
    module _ (i : Result (Option Item) Stop) (found : item_means i ≡ item_of log.count (take (length s - used) (drop used s))) where
      front : item_means i ≡ item_of log.count (drop used s)
      front = found ∙ ap (item_of log.count) (part_all s used)

      pub waits : i ≡ Ok None → {r : Step} {out' : List ℕ} → Does out end (after used (wait_step e log (length s - used))) r out'
          → Does d 0 (advance_of (length d) e log₀ s) r out'
      waits q p =
          let l : length s - used ≡ length (drop used s) = sym (length-drop used s) in
          last_turn (wait_step e log (length s - used)) (ap (wait_step e log) l ∙ at_item e log (drop used s) (item_means i) (item_means (Ok None)) front (ap item_means q)) (wait_last e log (length s - used)) p

      pub stops : (why : Stop) → i ≡ Err why → (k : ℕ) → k ≡ stop_number why → {r : Step} {out' : List ℕ} → Does out end (after used (stop_step log k)) r out'
          → Does d 0 (advance_of (length d) e log₀ s) r out'
      stops why q k n p =
          last_turn (stop_step log k) (ap (stop_step log) n ∙ at_item e log (drop used s) (item_means i) (item_means (Err why)) front (ap item_means q)) refl p

      -- ---- a table call
      module _ (c : Request) (q : i ≡ Ok (Some (Item.Call c))) where
        pub call_counts : log.count < 4294967295
        call_counts = counts_on log.count (drop used s) (item_means i) (request_means c) front (ap item_means q) w.few_enough (asks c)

        module _ {r : Step} {out' : List ℕ} (p : Does out end (request_step log (request_means c)) r out') where
          call_here : request_step log (request_means c) ≡ step_of e log (drop used s)
          call_here = at_request e log (drop used s) c ∙ at_item e log (drop used s) (item_means i) (request_means c) front (ap item_means q)

          pub call_more : goes_on (status_means r.status) ≡ true → Turned s e d log₀ out' r.log (used + r.used) r.end
          call_more g = more (request_step log (request_means c)) call_here p g

          pub call_less : goes_on (status_means r.status) ≡ true → length s - (used + r.used) < length s - used
          call_less g = less (request_step log (request_means c)) call_here p g

          pub call_last : goes_on (status_means r.status) ≡ false
              → Does d 0 (advance_of (length d) e log₀ s) (record { log = r.log; used = used + r.used; end = r.end; status = r.status }) out'
          call_last g =
              last_turn (request_step log (request_means c)) call_here (sym (ap goes_on p.status) ∙ g)
              (record { log = p.log; used = ap (λ (j : ℕ). used + j) p.used; put = p.put; status = p.status })

      -- ---- a frame, with n data bytes
      module _ (h : FrameHeader) (q : i ≡ Ok (Some (Item.Frame h))) (n : ℕ) (size : n ≡ data_size h) where
        pub frame_used : used + 8 + n ≤ length s
        frame_used = omega (arith, size, has log.count (drop used s) (item_means i) (item_means (Ok (Some (Item.Frame h)))) front (ap item_means q), length-drop used s, w.got)

        pub frame_counts : log.count < 4294967295
        frame_counts = counts_on log.count (drop used s) (item_means i) (item_means (Ok (Some (Item.Frame h)))) front (ap item_means q) w.few_enough (omega arith)

        -- its data bytes, as the code lends them
        abbrev lent : List ℕ
        lent = take (used + 8 + n - (used + 8)) (drop (used + 8) s)

        lent_data : lent ≡ data_of h (drop used s)
        lent_data =
            let k : used + 8 + n - (used + 8) ≡ data_size h = omega (arith, size) in
            ap (take (used + 8 + n - (used + 8))) (sym (drop-drop 8 used s)) ∙ ap (λ (j : ℕ). take j (drop 8 (drop used s))) k

        module _ (y : Processed) (ey : processed_means y ≡ processed_by log.engine (frame_with h lent)) where
          frame_here : frame_step log (8 + n) (frame_with h lent) ≡ step_of e log (drop used s)
          frame_here =
              ap (λ (k : ℕ). frame_step log (8 + k) (frame_with h lent)) size
              ∙ ap (λ (l : List ℕ). frame_step log (frame_size h) (frame_with h l)) lent_data
              ∙ at_item e log (drop used s) (item_means i) (item_means (Ok (Some (Item.Frame h)))) front (ap item_means q)

          pub frame_more : {end' : ℕ} {out' : List ℕ} → Put out end (anomaly_lines (log.count + 1) (take y.result.anomaly_count y.result.anomalies)) end' out'
              → Turned s e d log₀ out' (record { count = log.count + 1; engine = y.engine }) (used + 8 + n) end'
          frame_more {end'} {out'} p =
              let k : used + (8 + n) ≡ used + 8 + n = omega arith in
              subst (λ (j : ℕ). Turned s e d log₀ out' (record { count = log.count + 1; engine = y.engine }) j end') k
              (more (frame_step log (8 + n) (frame_with h lent)) frame_here {r = sound_of log y.engine (8 + n) end'}
              (record {
                log = ap (λ (z : Framed). record { count = log.count + 1; engine = z.engine }) ey;
                used = refl;
                put = named (ap (λ (z : Framed). anomaly_lines (log.count + 1) (take z.result.anomaly_count z.result.anomalies)) ey) p;
                status = refl;
              }) refl)

-- ---- what a call takes was there, and what it writes has room

pub run_fits : (f room : ℕ) (e : Bool) (log : Log) (s : List ℕ) → ((run_on f room e log s).used ≤ length s) × (length (run_on f room e log s).text ≤ room)
unfolding run_on
run_fits zero room e log s = (omega arith, omega arith)
run_fits (suc f) room e log s =
    let m = step_of e log s in
    let n = run_on f (room - length m.text) e m.log (drop m.used s) in
    let ih = run_fits f (room - length m.text) e m.log (drop m.used s) in
    let Fits : Move → Type 0 = λ (x : Move). (x.used ≤ length s) × (length x.text ≤ room) in
    choose Fits (ltb room 512) (full_move log) (cond (goes_on m.status) (behind m n) m) (λ _. (omega arith, omega arith))
    (λ b. let big : 512 ≤ room = ltb-false room 512 b in
    choose Fits (goes_on m.status) (behind m n) m
    (λ _. (omega (arith, ih.0, step_used e log s, length-drop m.used s), omega (arith, ih.1, step_length e log s, length-append m.text n.text)))
    (λ _. (step_used e log s, omega (arith, step_length e log s))))

pub advance_fits : {d : List ℕ} (e : Bool) (log : Log) (s : List ℕ) {r : Step} {out : List ℕ} → Does d 0 (advance_of (length d) e log s) r out
    → (r.used ≤ length s) × IsPrefixLen r.end out
advance_fits {d} e log s {r} {out} p =
    let fits = run_fits (suc (length s)) (length d) e log s in
    let long : length out ≡ length d = ap length p.put.done ∙ length-sets d 0 (advance_of (length d) e log s).text in
    let h : r.end ≤ length out = omega (arith, p.put.stop, fits.1) in
    (omega (arith, p.used, fits.0), (h, sym (length-take-le r.end out h)))
