-- Document 01, "The table": the last slots. "Define gives at most 65,534; a batch may give 65,535", by what the compiled calls promise.
-- Assumes nothing.
use mathlib.Core.Path.{◌≡◌, refl, sym, ap, ◌∙◌}
use mathlib.Core.Bool.{Bool, true, false, cond}
use mathlib.Core.List.{List, [], ◌∷◌}
use Prim.Native.Nat.{ℕ, ◌+◌, ◌≤◌, ◌<◌}
use native.Mathlib.Decide.{dec_le}
use native.Mathlib.Omega.{arith}
use lib.ListN.{length, take}
use contract.Lifetimes.{Lfts}
use Rattle.conversion.specs.declared.SignalDefinition.{SignalDefinition}
use Rattle.std.specs.Prelude.{Ok, Err}
use Rattle.table.specs.declared.TableError.TheVariants.{ResourceExhausted}
use Rattle.table.specs.declared.Defined.{Defined}
use Rattle.table.specs.declared.Entry.{Entry}
use Rattle.table.specs.declared.SignalIdsEngine.{SignalIdsEngine}
use Rattle.table.specs.Rows.{keep, insert_behind}
use Rattle.table.specs.Table.{Table, Told, error_number, accepted, refused, table_of, live, defined, fault, entry_of, below, has, define', faults, slots_ok, appended, appended_all}
use Rattle.table.specs.Regular.{Regular}
use Rattle.table.proofs.Lists.{every_weaken}
use Rattle.table.proofs.Columns.{table_engine}
use Rattle.table.proofs.Answers.{define_full, define_spent, batch_new}
use Rattle.table.proofs.Accepted.{DefineAccepted, define_accepted}
use Rattle.table.proofs.Regular.{unused}
use Rattle.table.proofs.Slots.{none_kept}
use Rattle.table.proofs.SignalIdsEngine.define_signal.Reads as define-signal
use Rattle.table.proofs.SignalIdsEngine.define_signals_batch.Reads as define-signals-batch

-- ---- "Define gives at most 65,534": next slot is a u16, and at 65,535 define is refused
answer_at_most : (e : SignalIdsEngine) (d : SignalDefinition) (k : ℕ) → e.next_slot ≤ 65535 → (defined e (define' (table_of e) d)).answer ≡ Ok k → k ≤ 65534
answer_at_most e d k fits = go (define' (table_of e) d) refl
  where
    go : (x : Told ℕ) → define' (table_of e) d ≡ x → (defined e x).answer ≡ Ok k → k ≤ 65534
    go (refused j) h a = cc
    go (accepted b u) h a =
        let f : DefineAccepted (table_of e) d b u = define_accepted (table_of e) d b u h in
        let i : b ≡ k = cc in
        omega (arith, f.unspent, f.answer)

pub define_at_most : (κs : Lfts 0) (e : SignalIdsEngine) (d : SignalDefinition) (r : Defined ℕ) (x : _) → define-signal.Learnt κs (e, (d, tt)) r x
    → e.next_slot ≤ 65535
    → (k : ℕ)
    → r.answer ≡ Ok k
    → k ≤ 65534
define_at_most κs e d r x h fits k a = answer_at_most e d k fits (ap (λ (q : Defined ℕ). q.answer) (sym h) ∙ a)

-- at next slot 65,535 every define is refused: with its own fault, or with 4
pub define_exhausted : (t : Table) (d : SignalDefinition) → fault d ≡ Ok tt → t.next ≡ 65535 → (define' t d ≡ refused ResourceExhausted) × (error_number ResourceExhausted ≡ 4)
define_exhausted t d ok end = (go (dec_le 64 (length t.rows)), refl)
  where
    go : Dec (64 ≤ length t.rows) → define' t d ≡ refused ResourceExhausted
    go (yes h) = define_full t d ok h
    go (no h) = define_spent t d ok (omega arith) end

-- ---- the rows that pass a test, when a row comes in that passes it as the only one, and when one comes in that doesn't
module _ {A : Type 0} (p q : A → Bool) (x : A) where
  keep_only : p x ≡ true → (l : List A) → keep p l ≡ [] → keep p (insert_behind q x l) ≡ x ∷ []
  keep_only h [] none = rw h
  keep_only h (y ∷ l) none = at (p y) refl none (q y) (λ n. keep_only h l n)
    where
      at : (b : Bool) → p y ≡ b → cond b (y ∷ keep p l) (keep p l) ≡ [] → (c : Bool) → (keep p l ≡ [] → keep p (insert_behind q x l) ≡ x ∷ [])
          → keep p (cond c (y ∷ insert_behind q x l) (x ∷ y ∷ l)) ≡ x ∷ []
      at true e n c rest = let z : ◌≡◌ {A = ℕ} 0 1 = cc in absurd (omega arith)
      at false e n true rest = rw e (rest n)
      at false e n false rest = rw (h, e) (ap (λ (m : List A). x ∷ m) n)

  keep_others : p x ≡ false → (l : List A) → keep p (insert_behind q x l) ≡ keep p l
  keep_others h [] = rw h
  keep_others h (y ∷ l) = at (q y) (keep_others h l)
    where
      at : (c : Bool) → keep p (insert_behind q x l) ≡ keep p l → keep p (cond c (y ∷ insert_behind q x l) (x ∷ y ∷ l)) ≡ keep p (y ∷ l)
      at true rest = ap (λ (m : List A). cond (p y) (y ∷ m) m) rest
      at false rest = rw h

-- ---- "At next slot 65,534 a batch of two gets 65,534 and 65,535, and define is then refused"
-- in the table u after a batch of a and b on the table t
record Ending (t : Table) (a b : SignalDefinition) (u : Table) : Type 0 where
  pub at_65534 : keep (has 65534) u.rows ≡ entry_of t.fresh 65534 a ∷ []
  pub at_65535 : keep (has 65535) u.rows ≡ entry_of t.fresh 65535 b ∷ []
  pub next : u.next ≡ 65535

ending : (t : Table) (a b : SignalDefinition) → Regular t → t.next ≡ 65534 → Ending t a b (appended_all t (a ∷ b ∷ []))
ending t a b g end =
    let free = unused t g (λ h. omega arith) in
    let away : (s : ℕ) → 65534 ≤ s → keep (has s) t.rows ≡ [] =
    λ s h. (none_kept s t.rows (every_weaken (λ r. r.signal.slot < t.next) (λ r. r.signal.slot ≡ s → ⊥) (λ r k e. omega arith) t.rows free)).0 in
    let x = entry_of t.fresh t.next a in
    let y = entry_of t.fresh (appended t a).next b in
    let one : x ≡ entry_of t.fresh 65534 a = ap (λ (s : ℕ). entry_of t.fresh s a) end in
    let two : y ≡ entry_of t.fresh 65535 b = ap (λ (s : ℕ). entry_of t.fresh s b) (omega arith) in
    record {
      at_65534 =
          keep_others (has 65534) (below (b.can_id + 1)) y (ap (λ (r : Entry). has 65534 r) two) (appended t a).rows
          ∙ keep_only (has 65534) (below (a.can_id + 1)) x (ap (λ (r : Entry). has 65534 r) one) t.rows (away 65534 (omega arith))
          ∙ ap (λ (r : Entry). r ∷ []) one;
      at_65535 =
          keep_only (has 65535) (below (b.can_id + 1)) y (ap (λ (r : Entry). has 65535 r) two) (appended t a).rows
          (keep_others (has 65535) (below (a.can_id + 1)) x (ap (λ (r : Entry). has 65535 r) one) t.rows ∙ away 65535 (omega arith))
          ∙ ap (λ (r : Entry). r ∷ []) two;
      next = omega arith;
    }

-- what the batch of two returns, and any define after it: the rows with these slots are the batch's, and there is one of each
pub record LastSlots (e : SignalIdsEngine) (a b : SignalDefinition) (r : Defined (Unit {0})) : Type 0 where
  pub answer : r.answer ≡ Ok tt
  pub at_65534 : keep (has 65534) (live r.engine) ≡ entry_of e.fresh 65534 a ∷ []
  pub at_65535 : keep (has 65535) (live r.engine) ≡ entry_of e.fresh 65535 b ∷ []
  pub next : r.engine.next_slot ≡ 65535
  pub then_refused : (κs : Lfts 0) (d : SignalDefinition) (q : Defined ℕ) (x : _) → define-signal.Learnt κs (r.engine, (d, tt)) q x → fault d ≡ Ok tt
      → (q ≡ record { answer = Err ResourceExhausted; engine = r.engine }) × (error_number ResourceExhausted ≡ 4)

pub last_slots : (κs : Lfts 0) (e : SignalIdsEngine) (ds : List SignalDefinition) (r : Defined (Unit {0})) (x : _) → define-signals-batch.Learnt κs (e, (ds, (2, tt))) r x
    → Regular (table_of e)
    → e.next_slot ≡ 65534
    → length (live e) ≤ 62
    → (a b : SignalDefinition)
    → take 2 ds ≡ a ∷ b ∷ []
    → fault a ≡ Ok tt
    → fault b ≡ Ok tt
    → LastSlots e a b r
unfolding slots_ok
last_slots κs e ds r x h g end room a b two p q =
    let t = table_of e in
    let u = appended_all t (a ∷ b ∷ []) in
    let clean : faults (take 2 ds) ≡ Ok tt = ap faults two ∙ (rw (p, q)) in
    let done : r ≡ defined e (accepted tt u) =
    h ∙ ap (defined e) (batch_new t ds 2 (omega arith) clean (ap (slots_ok 2) end) ∙ ap (λ (l : List SignalDefinition). accepted tt (appended_all t l)) two) in
    let holds : table_of r.engine ≡ u = ap (λ (z : Defined (Unit {0})). table_of z.engine) done ∙ table_engine u in
    let k = ending t a b g end in
    let next : r.engine.next_slot ≡ 65535 = ap (λ (z : Table). z.next) holds ∙ k.next in
    record {
      answer = ap (λ (z : Defined (Unit {0})). z.answer) done;
      at_65534 = ap (λ (z : Table). keep (has 65534) z.rows) holds ∙ k.at_65534;
      at_65535 = ap (λ (z : Table). keep (has 65535) z.rows) holds ∙ k.at_65535;
      next = next;
      then_refused = λ κs' d w y j ok. (j ∙ ap (defined r.engine) (define_exhausted (table_of r.engine) d ok next).0, refl);
    }
