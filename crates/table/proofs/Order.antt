-- The table's order: what an accepted call puts before, and behind, the rows of the same identifier; with sortedness this leaves one table.
-- Assumes nothing.
use mathlib.Core.Path.{◌≡◌, refl, sym, ap, ◌∙◌, subst}
use mathlib.Core.Bool.{Bool, true, false, cond}
use mathlib.Core.Logic.{⊎_elim}
use mathlib.Core.List.{List, [], ◌∷◌, ◌++◌, append-nil, append_assoc}
use Prim.Native.Nat.{ℕ, ◌+◌, ◌≤◌, ◌<◌}
use native.Mathlib.Decide.{dec_le}
use native.Mathlib.Omega.{arith}
use lib.Dec.{eqb, ltb}
use lib.ListN.{length, length-take, take}
use borrow.Author.Tests.{eq-eqb, ne_eqb, eqb-true, ltb-true, ltb-false}
use Rattle.conversion.specs.declared.SignalDefinition.{SignalDefinition}
use Rattle.table.specs.declared.Entry.{Entry}
use Rattle.table.specs.Rows.{insert_behind, every}
use Rattle.table.specs.Table.{Table, accepted, entry_of, below, appended, appended_all}
use Rattle.table.specs.Calls.{TableCall, Answer, defines, batches, removes, told, new_rows, rows_before, rows_behind, rows_left}
use Rattle.table.specs.Regular.{Sorted, Regular, of_id, Order}
use Rattle.table.proofs.Laws.{keep_append}
use Rattle.table.proofs.Lists.{every_weaken, sorted_insert}
use Rattle.table.proofs.Accepted.{DefineAccepted, define_accepted, RemoveAccepted, remove_accepted, BatchAccepted, batch_accepted, slots_enough}

-- no row of the identifier where all are higher
none_of : (k : ℕ) (l : List Entry) → every (λ r. k < r.id) l → of_id k l ≡ []
none_of k [] h = refl
none_of k (r ∷ l) h = rw (ne_eqb r.id k (λ q. omega (arith, h.0))) (none_of k l h.1)

-- one row, and those behind it
of_cons : (k : ℕ) (x : Entry) (l : List Entry) → of_id k (x ∷ l) ≡ of_id k (x ∷ []) ++ of_id k l
of_cons k x l = keep_append (λ r. eqb r.id k) (x ∷ []) l

-- a row behind those below its own identifier stands before those that have it
insert_before : (k : ℕ) (x : Entry) (l : List Entry) → of_id k (insert_behind (below x.id) x l) ≡ of_id k (x ∷ []) ++ of_id k l
insert_before k x [] = sym (append-nil (of_id k (x ∷ [])))
insert_before k x (y ∷ l) = at (insert_before k x l) (ltb y.id x.id) refl (eqb y.id k) refl (eqb x.id k) refl
  where
    at : of_id k (insert_behind (below x.id) x l) ≡ of_id k (x ∷ []) ++ of_id k l
        → (b : Bool)
        → ltb y.id x.id ≡ b
        → (c : Bool)
        → eqb y.id k ≡ c
        → (f : Bool)
        → eqb x.id k ≡ f
        → of_id k (cond b (y ∷ insert_behind (below x.id) x l) (x ∷ y ∷ l)) ≡ of_id k (x ∷ []) ++ of_id k (y ∷ l)
    at i false p c q f r = of_cons k x (y ∷ l)
    at i true p true q true r = absurd (omega (arith, ltb-true y.id x.id p, eqb-true y.id k q, eqb-true x.id k r))
    at i true p true q false r = rw (q, r) (ap (λ (m : List Entry). y ∷ m) (i ∙ rw r))
    at i true p false q f r = rw q i

-- and behind those of its own too, behind all that have it
insert_behind_lem : (k : ℕ) (x : Entry) (l : List Entry) → Sorted l → of_id k (insert_behind (below (x.id + 1)) x l) ≡ of_id k l ++ of_id k (x ∷ [])
insert_behind_lem k x [] s = refl
insert_behind_lem k x (y ∷ l) s = at (insert_behind_lem k x l s.1) (ltb y.id (x.id + 1)) refl (eqb y.id k) refl (eqb x.id k) refl
  where
    at : of_id k (insert_behind (below (x.id + 1)) x l) ≡ of_id k l ++ of_id k (x ∷ [])
        → (b : Bool)
        → ltb y.id (x.id + 1) ≡ b
        → (c : Bool)
        → eqb y.id k ≡ c
        → (f : Bool)
        → eqb x.id k ≡ f
        → of_id k (cond b (y ∷ insert_behind (below (x.id + 1)) x l) (x ∷ y ∷ l)) ≡ of_id k (y ∷ l) ++ of_id k (x ∷ [])
    at i true p true q f r = rw q (ap (λ (m : List Entry). y ∷ m) i)
    at i true p false q f r = rw q i
    at i false p c q false r = of_cons k x (y ∷ l) ∙ rw r (sym (append-nil (of_id k (y ∷ l))))
    at i false p c q true r =
        let over : x.id + 1 ≤ y.id = ltb-false y.id (x.id + 1) p in
        let is : x.id ≡ k = eqb-true x.id k r in
        let none : of_id k (y ∷ l) ≡ [] = none_of k (y ∷ l) (omega arith, every_weaken (λ b. y.id ≤ b.id) (λ b. k < b.id) (λ b h. omega arith) l s.0) in
        of_cons k x (y ∷ l) ∙ ap (λ (m : List Entry). of_id k (x ∷ []) ++ m) none ∙ append-nil (of_id k (x ∷ [])) ∙ sym (ap (λ (m : List Entry). m ++ of_id k (x ∷ [])) none)

-- a batch one by one
batch_behind : (k : ℕ) (l : List SignalDefinition) (t : Table) → Sorted t.rows → t.next + length l ≤ 65536 → of_id k (appended_all t l).rows ≡ of_id k t.rows ++ of_id k (new_rows t l)
batch_behind k [] t s h = sym (append-nil (of_id k t.rows))
batch_behind k (d ∷ []) t s h = insert_behind_lem k (entry_of t.fresh t.next d) t.rows s
batch_behind k (d ∷ c ∷ l) t s h =
    let x : Entry = entry_of t.fresh t.next d in
    let u : Table = appended t d in
    let next : u.next ≡ t.next + 1 = omega arith in
    let rest : List Entry = new_rows (record { rows = t.rows; next = t.next + 1; fresh = t.fresh }) (c ∷ l) in
    batch_behind k (c ∷ l) u (sorted_insert (λ r. r.id) (x.id + 1) x (omega arith) (omega arith) t.rows s) (omega arith)
    ∙ ap (λ (n : ℕ). of_id k u.rows ++ of_id k (new_rows (record { rows = t.rows; next = n; fresh = t.fresh }) (c ∷ l))) next
    ∙ ap (λ (m : List Entry). m ++ of_id k rest) (insert_behind_lem k x t.rows s)
    ∙ append_assoc (of_id k t.rows) (of_id k (x ∷ [])) (of_id k rest)
    ∙ ap (λ (m : List Entry). of_id k t.rows ++ m) (sym (of_cons k x rest))

-- the order rule, for every call that is accepted
pub order : (t : Table) (c : TableCall) (a : Answer c) (u : Table) → Regular t → told t c ≡ accepted a u → Order (rows_before t c) (rows_behind t c) (rows_left t c) u.rows
order t (defines d) a u g e k =
    let f : DefineAccepted t d a u = define_accepted t d a u e in
    let x : Entry = entry_of t.fresh t.next d in
    ap (λ (v : Table). of_id k v.rows) f.table
    ∙ insert_before k x t.rows
    ∙ ap (λ (m : List Entry). of_id k (x ∷ []) ++ m) (sym (append-nil (of_id k t.rows)))
order t (batches ds n) a u g e k =
    let f : BatchAccepted t ds n u = batch_accepted t ds n a u e in
    ap (λ (v : Table). of_id k v.rows) f.table
    ∙ ⊎_elim (λ (z : n ≡ 0). none z) (λ (h : (t.next < 65535) × (t.next + n ≤ 65536)). batch_behind k (take n ds) t g.sorted (omega (arith, h.1, length-take n ds))) (slots_enough n t.next g.bound f.slots)
  where
    none : n ≡ 0 → of_id k (appended_all t (take n ds)).rows ≡ of_id k t.rows ++ of_id k (new_rows t (take n ds))
    none z = subst (λ (j : ℕ). of_id k (appended_all t (take j ds)).rows ≡ of_id k t.rows ++ of_id k (new_rows t (take j ds))) (sym z) (sym (append-nil (of_id k t.rows)))
order t (removes s) a u g e k =
    let f : RemoveAccepted t s u = remove_accepted t s a u e in
    ap (λ (v : Table). of_id k v.rows) f.table ∙ sym (append-nil (of_id k (rows_left t (removes s))))

-- ---- sorted rows are told by the rows of each identifier, so that the rule leaves one table
-- where a row of the identifier is kept, no higher one stands first
least : (a : Entry) (l m : List Entry) (k : ℕ) (b : Entry) → every (λ r. a.id ≤ r.id) l → of_id k (a ∷ l) ≡ b ∷ m → a.id ≤ k
least a l m k b h e = go (dec_le a.id k)
  where
    go : Dec (a.id ≤ k) → a.id ≤ k
    go (yes q) = q
    go (no q) =
        let none : of_id k (a ∷ l) ≡ [] = none_of k (a ∷ l) (omega arith, every_weaken (λ r. a.id ≤ r.id) (λ r. k < r.id) (λ r j. omega arith) l h) in
        let z : ◌≡◌ {A = ℕ} 0 1 = cc in
        absurd (omega arith)

of_own : (a : Entry) (l : List Entry) → of_id a.id (a ∷ l) ≡ a ∷ of_id a.id l
of_own a l = rw (eq-eqb a.id a.id refl)

pub order_only : (l m : List Entry) → Sorted l → Sorted m → ((k : ℕ) → of_id k l ≡ of_id k m) → l ≡ m
order_only [] [] s r h = refl
order_only [] (b ∷ m) s r h =
    let e : [] ≡ b ∷ of_id b.id m = h b.id ∙ of_own b m in
    let z : ◌≡◌ {A = ℕ} 0 1 = cc in
    absurd (omega arith)
order_only (a ∷ l) [] s r h =
    let e : [] ≡ a ∷ of_id a.id l = sym (h a.id) ∙ of_own a l in
    let z : ◌≡◌ {A = ℕ} 0 1 = cc in
    absurd (omega arith)
order_only (a ∷ l) (b ∷ m) s r h = ap (λ (x : Entry). x ∷ l) heads ∙ ap (λ (x : List Entry). b ∷ x) (order_only l m s.1 r.1 tails)
  where
    same : a.id ≡ b.id
    same =
        let low : a.id ≤ b.id = least a l (of_id b.id m) b.id b s.0 (h b.id ∙ of_own b m) in
        let high : b.id ≤ a.id = least b m (of_id a.id l) a.id a r.0 (sym (h a.id) ∙ of_own a l) in
        omega arith

    heads : a ≡ b
    heads =
        let e : a ∷ of_id a.id l ≡ b ∷ of_id b.id m =
        sym (of_own a l) ∙ h a.id ∙ ap (λ (k : ℕ). of_id k (b ∷ m)) same ∙ of_own b m in
        cc

    tails : (k : ℕ) → of_id k l ≡ of_id k m
    tails k = at (eqb a.id k) refl (eqb b.id k) (sym (ap (λ (x : Entry). eqb x.id k) heads)) (h k)
      where
        at : (c : Bool) → eqb a.id k ≡ c → (f : Bool) → f ≡ eqb a.id k → cond c (a ∷ of_id k l) (of_id k l) ≡ cond f (b ∷ of_id k m) (of_id k m) → of_id k l ≡ of_id k m
        at true p true q e = cc
        at false p false q e = e
        at true p false q e = let z : ◌≡◌ {A = Bool} true false = cc in let y : ◌≡◌ {A = ℕ} 0 1 = cc in absurd (omega arith)
        at false p true q e = let z : ◌≡◌ {A = Bool} true false = cc in let y : ◌≡◌ {A = ℕ} 0 1 = cc in absurd (omega arith)
