-- Slots: calls give them rising from the next slot on and never again, and each live row has a slot and a definition that a call was given.
-- Assumes nothing.
use mathlib.Core.Path.{◌≡◌, refl, sym, ap, ◌∙◌, subst}
use mathlib.Core.Bool.{Bool, true, false, cond}
use mathlib.Core.Logic.{◌⊎◌, inl, inr, ⊎_elim}
use mathlib.Core.List.{List, [], ◌∷◌, ◌++◌, append-nil, append_assoc}
use Prim.Native.Nat.{ℕ, ◌+◌, ◌≤◌, ◌<◌, min}
use native.Mathlib.Omega.{arith}
use lib.Dec.{eqb}
use lib.ListN.{length, length-take, take}
use lib.Seq.{append_snoc}
use borrow.Author.Tests.{ne_eqb, eqb-true}
use Rattle.conversion.specs.declared.SignalDefinition.{SignalDefinition}
use Rattle.detector.specs.declared.EwmaDetector.{EwmaDetector}
use Rattle.table.specs.declared.Signal.{Signal}
use Rattle.table.specs.declared.Entry.{Entry}
use Rattle.table.specs.Rows.{keep, some, drop_first, insert_behind, every, among}
use Rattle.table.specs.Table.{Table, Told, accepted, refused, empty_table, entry_of, below, has, appended, appended_all}
use Rattle.table.specs.Calls.{TableCall, Answer, defines, batches, removes, told, left, Event, calls, moves, with_detector, happened, ran, brought, numbered, given, granted}
use Rattle.table.specs.Regular.{Apart, Rising, Regular}
use Rattle.table.proofs.Lists.{every_weaken, every_append, every_insert, every_drop, every_move, pairs_append}
use Rattle.table.proofs.Accepted.{DefineAccepted, define_accepted, RemoveAccepted, remove_accepted, BatchAccepted, batch_accepted, slots_enough}
use Rattle.table.proofs.Regular.{accepted_keeps, happened_keeps, empty_regular}

-- ---- numbered definitions
numbered_from : (s : ℕ) (l : List SignalDefinition) → every (λ g. (s ≤ g.slot) × (g.slot < s + length l)) (numbered s l)
numbered_from s [] = tt
numbered_from s (d ∷ l) = (
  (omega arith, omega arith),
  every_weaken (λ g. (s + 1 ≤ g.slot) × (g.slot < s + 1 + length l)) (λ g. (s ≤ g.slot) × (g.slot < s + length (d ∷ l))) (λ g h. (omega arith, omega arith)) (numbered (s + 1) l) (numbered_from (s + 1) l),
)

numbered_rising : (s : ℕ) (l : List SignalDefinition) → Rising (numbered s l)
numbered_rising s [] = tt
numbered_rising s (d ∷ l) =
    (every_weaken (λ g. (s + 1 ≤ g.slot) × (g.slot < s + 1 + length l)) (λ g. s < g.slot) (λ g h. omega arith) (numbered (s + 1) l) (numbered_from (s + 1) l), numbered_rising (s + 1) l)

-- ---- an accepted call: how many slots it gives, and the next slot then
next_all : (l : List SignalDefinition) (t : Table) → t.next ≤ 65535 → (appended_all t l).next ≡ min (t.next + length l) 65535
next_all [] t h = omega arith
next_all (d ∷ l) t h = next_all l (appended t d) (omega arith) ∙ (omega arith)

pub record Gives (t : Table) (c : TableCall) (u : Table) : Type 0 where
  pub next : u.next ≡ min (t.next + length (brought c)) 65535
  pub slots : (brought c ≡ []) ⊎ ((t.next < 65535) × (t.next + length (brought c) ≤ 65536))

pub gives : (t : Table) (c : TableCall) (a : Answer c) (u : Table) → Regular t → told t c ≡ accepted a u → Gives t c u
gives t (defines d) a u g e =
    let f : DefineAccepted t d a u = define_accepted t d a u e in
    record {
      next = ap (λ (v : Table). v.next) f.table;
      slots = inr (omega (arith, f.unspent, g.bound), omega (arith, f.unspent, g.bound));
    }
gives t (batches ds n) a u g e =
    let f : BatchAccepted t ds n u = batch_accepted t ds n a u e in
    record {
      next = ap (λ (v : Table). v.next) f.table ∙ next_all (take n ds) t g.bound;
      slots =
          ⊎_elim (λ (z : n ≡ 0). inl (ap (λ (j : ℕ). take j ds) z)) (λ (h : (t.next < 65535) × (t.next + n ≤ 65536)). inr (h.0, omega (arith, h.1, length-take n ds)))
          (slots_enough n t.next g.bound f.slots);
    }
gives t (removes s) a u g e =
    let f : RemoveAccepted t s u = remove_accepted t s a u e in
    record { next = ap (λ (v : Table). v.next) f.table ∙ omega (arith, g.bound); slots = inl refl }

-- ---- slots rise, and are never used again
-- what is given from a table on is at its next slot or above, and up to 65,535
abbrev From : ℕ → Signal → Type 0
From next g = (next ≤ g.slot) × (next < 65535) × (g.slot ≤ 65535)

given_from : (t : Table) (c : TableCall) (u : Table) → Gives t c u → every (λ g. From t.next g × (g.slot < t.next + length (brought c))) (numbered t.next (brought c))
given_from t c u v =
    ⊎_elim (λ (z : brought c ≡ []). subst (λ (l : List SignalDefinition). every (λ g. From t.next g × (g.slot < t.next + length l)) (numbered t.next l)) (sym z) tt)
    (λ (h : (t.next < 65535) × (t.next + length (brought c) ≤ 65536)).
    every_weaken (λ g. (t.next ≤ g.slot) × (g.slot < t.next + length (brought c))) (λ g. From t.next g × (g.slot < t.next + length (brought c)))
    (λ g k. ((k.0, h.0, omega (arith, k.1, h.1)), k.1))
    (numbered t.next (brought c))
    (numbered_from t.next (brought c)))
    v.slots

pub granted_from : (cs : List Event) (t : Table) → Regular t → every (From t.next) (granted t cs)
granted_from [] t g = tt
granted_from (moves m ∷ cs) t g = granted_from cs (happened t (moves m)) (happened_keeps t (moves m) g)
granted_from (calls c ∷ cs) t g = go (told t c) refl (λ u k. granted_from cs u k)
  where
    go : (x : Told (Answer c)) → told t c ≡ x → ((u : Table) → Regular u → every (From u.next) (granted u cs)) → every (From t.next) (given t.next (brought c) x ++ granted (left t x) cs)
    go (refused k) e rest = rest t g
    go (accepted a u) e rest =
        let v : Gives t c u = gives t c a u g e in
        every_append (From t.next) (numbered t.next (brought c)) (granted u cs)
        (every_weaken (λ s. From t.next s × (s.slot < t.next + length (brought c))) (From t.next) (λ s h. h.0) (numbered t.next (brought c)) (given_from t c u v))
        (every_weaken (From u.next) (From t.next) (λ s h. (omega (arith, v.next, h.0, h.1), omega (arith, v.next, h.1), h.2)) (granted u cs)
        (rest u (accepted_keeps t c a u g e)))

pub granted_rising : (cs : List Event) (t : Table) → Regular t → Rising (granted t cs)
granted_rising [] t g = tt
granted_rising (moves m ∷ cs) t g = granted_rising cs (happened t (moves m)) (happened_keeps t (moves m) g)
granted_rising (calls c ∷ cs) t g = go (told t c) refl (λ u k. granted_rising cs u k)
  where
    go : (x : Told (Answer c)) → told t c ≡ x → ((u : Table) → Regular u → Rising (granted u cs)) → Rising (given t.next (brought c) x ++ granted (left t x) cs)
    go (refused k) e rest = rest t g
    go (accepted a u) e rest =
        let v : Gives t c u = gives t c a u g e in
        let r : Regular u = accepted_keeps t c a u g e in
        pairs_append (λ b s. b.slot < s.slot) (numbered t.next (brought c)) (granted u cs) (numbered_rising t.next (brought c))
        (every_weaken (λ s. From t.next s × (s.slot < t.next + length (brought c))) (λ b. every (λ s. b.slot < s.slot) (granted u cs))
        (λ b h. every_weaken (From u.next) (λ s. b.slot < s.slot) (λ s k. omega (arith, v.next, h.1, k.0, k.1)) (granted u cs) (granted_from cs u r))
        (numbered t.next (brought c))
        (given_from t c u v))
        (rest u r)

-- from the table that `new` gives: slots rise, so that none is given twice
pub slots_rise : (f : EwmaDetector) (cs : List Event) → Rising (granted (empty_table f) cs)
slots_rise f cs = granted_rising cs (empty_table f) (empty_regular f)

-- ---- each live row was given by a call
-- one of a list is one of a longer list
among_front : (g : Signal) (l m : List Signal) → among g l → among g (l ++ m)
among_front g [] m h = absurd h
among_front g (s ∷ l) m h = ⊎_elim (λ (e : g ≡ s). inl e) (λ (k : among g l). inr (among_front g l m k)) h

among_last : (g : Signal) (l : List Signal) → among g (l ++ (g ∷ []))
among_last g [] = inl refl
among_last g (s ∷ l) = inr (among_last g l)

-- each row's slot and definition are in the list
abbrev pub Known : List Signal → List Entry → Type 0
Known given l = every (λ r. among r.signal given) l

known_more : (g m : List Signal) (l : List Entry) → Known g l → Known (g ++ m) l
known_more g m l h = every_weaken (λ r. among r.signal g) (λ r. among r.signal (g ++ m)) (λ r k. among_front r.signal g m k) l h

known_insert : (g : List Signal) (limit : ℕ) (f : EwmaDetector) (s : ℕ) (d : SignalDefinition) (l : List Entry)
    → Known g l
    → Known (g ++ (record { slot = s; definition = d } ∷ [])) (insert_behind (below limit) (entry_of f s d) l)
known_insert g limit f s d l h =
    every_insert (λ r. among r.signal (g ++ (record { slot = s; definition = d } ∷ []))) (below limit) (entry_of f s d) l (among_last (record { slot = s; definition = d }) g)
    (known_more g (record { slot = s; definition = d } ∷ []) l h)

known_all : (l : List SignalDefinition) (t : Table) (g : List Signal) → t.next + length l ≤ 65536 → Known g t.rows → Known (g ++ numbered t.next l) (appended_all t l).rows
known_all [] t g h k = subst (λ (m : List Signal). Known m t.rows) (sym (append-nil g)) k
known_all (d ∷ []) t g h k = known_insert g (d.can_id + 1) t.fresh t.next d t.rows k
known_all (d ∷ c ∷ l) t g h k =
    let s : Signal = record { slot = t.next; definition = d } in
    let next : (appended t d).next ≡ t.next + 1 = omega arith in
    subst (λ (m : List Signal). Known m (appended_all t (d ∷ c ∷ l)).rows)
    (ap (λ (n : ℕ). (g ++ (s ∷ [])) ++ numbered n (c ∷ l)) next ∙ append_snoc g s (numbered (t.next + 1) (c ∷ l)))
    (known_all (c ∷ l) (appended t d) (g ++ (s ∷ [])) (omega arith) (known_insert g (d.can_id + 1) t.fresh t.next d t.rows k))

known_after : (t : Table) (c : TableCall) (a : Answer c) (u : Table) (g : List Signal) → Regular t → told t c ≡ accepted a u → Known g t.rows → Known (g ++ numbered t.next (brought c)) u.rows
known_after t (defines d) a u g r e k =
    let f : DefineAccepted t d a u = define_accepted t d a u e in
    subst (λ (v : Table). Known (g ++ numbered t.next (d ∷ [])) v.rows) (sym f.table) (known_insert g d.can_id t.fresh t.next d t.rows k)
known_after t (batches ds n) a u g r e k =
    let f : BatchAccepted t ds n u = batch_accepted t ds n a u e in
    let v : Gives t (batches ds n) u = gives t (batches ds n) a u r e in
    subst (λ (w : Table). Known (g ++ numbered t.next (take n ds)) w.rows) (sym f.table)
    (⊎_elim (λ (z : take n ds ≡ []). subst (λ (l : List SignalDefinition). Known (g ++ numbered t.next l) (appended_all t l).rows) (sym z) (known_all [] t g (omega (arith, r.bound)) k))
    (λ (h : (t.next < 65535) × (t.next + length (take n ds) ≤ 65536)). known_all (take n ds) t g h.1 k)
    v.slots)
known_after t (removes s) a u g r e k =
    let f : RemoveAccepted t s u = remove_accepted t s a u e in
    subst (λ (v : Table). Known (g ++ []) v.rows) (sym f.table)
    (every_drop (λ q. among q.signal (g ++ [])) (has s) t.rows (known_more g [] t.rows k))

pub ran_known : (cs : List Event) (t : Table) (g : List Signal) → Regular t → Known g t.rows → Known (g ++ granted t cs) (ran t cs).rows
ran_known [] t g r k = known_more g [] t.rows k
ran_known (moves m ∷ cs) t g r k =
    ran_known cs (happened t (moves m)) g (happened_keeps t (moves m) r) (every_move (λ q. among q.signal g) (with_detector m) (λ q h. h) t.rows k)
ran_known (calls c ∷ cs) t g r k = go (told t c) refl (λ u h v m. ran_known cs u h v m)
  where
    go : (x : Told (Answer c))
        → told t c ≡ x
        → ((u : Table) (h : List Signal) → Regular u → Known h u.rows → Known (h ++ granted u cs) (ran u cs).rows)
        → Known (g ++ (given t.next (brought c) x ++ granted (left t x) cs)) (ran (left t x) cs).rows
    go (refused j) e rest = rest t g r k
    go (accepted a u) e rest =
        subst (λ (m : List Signal). Known m (ran u cs).rows) (append_assoc g (numbered t.next (brought c)) (granted u cs))
        (rest u (g ++ numbered t.next (brought c)) (accepted_keeps t c a u r e) (known_after t c a u g r e k))

-- in every table that calls make, each live row has the slot and the definition that a call was given
pub live-given : (f : EwmaDetector) (cs : List Event) → Known (granted (empty_table f) cs) (ran (empty_table f) cs).rows
live-given f cs = ran_known cs (empty_table f) [] (empty_regular f) tt

-- and no other definition was given that slot
pub given_once : (l : List Signal) (a b : Signal) → Rising l → among a l → among b l → a.slot ≡ b.slot → a ≡ b
given_once [] a b r h k e = absurd h
given_once (s ∷ l) a b r h k e = go h k (λ p q. given_once l a b r.1 p q e)
  where
    above : (c : Signal) (m : List Signal) → every (λ g. s.slot < g.slot) m → among c m → s.slot < c.slot
    above c [] p q = absurd q
    above c (g ∷ m) p q =
        ⊎_elim (λ (z : c ≡ g). subst (λ (y : Signal). s.slot < y.slot) (sym z) p.0) (λ (z : among c m). above c m p.1 z) q

    go : (a ≡ s) ⊎ among a l → (b ≡ s) ⊎ among b l → (among a l → among b l → a ≡ b) → a ≡ b
    go (inl p) (inl q) rest = p ∙ sym q
    go (inl p) (inr q) rest = absurd (omega (arith, above b l r.0 q, e, ap (λ (y : Signal). y.slot) p))
    go (inr p) (inl q) rest = absurd (omega (arith, above a l r.0 p, e, ap (λ (y : Signal). y.slot) q))
    go (inr p) (inr q) rest = rest p q

-- ---- at most one row has a slot
pub none_kept : (s : ℕ) (l : List Entry) → every (λ r. r.signal.slot ≡ s → ⊥) l → (keep (has s) l ≡ []) × (some (has s) l ≡ false)
none_kept s [] h = (refl, refl)
none_kept s (r ∷ l) h =
    let no : eqb r.signal.slot s ≡ false = ne_eqb r.signal.slot s h.0 in
    let rest = none_kept s l h.1 in
    (rw no rest.0, rw no rest.1)

pub at_most_one : (s : ℕ) (l : List Entry) → Apart l → length (keep (has s) l) ≤ 1
at_most_one s [] h = omega arith
at_most_one s (r ∷ l) h = at (eqb r.signal.slot s) refl (at_most_one s l h.1)
  where
    at : (b : Bool) → eqb r.signal.slot s ≡ b → length (keep (has s) l) ≤ 1 → length (cond b (r ∷ keep (has s) l) (keep (has s) l)) ≤ 1
    at false e i = i
    at true e i =
        let is : r.signal.slot ≡ s = eqb-true r.signal.slot s e in
        let none = none_kept s l (every_weaken (λ q. r.signal.slot ≡ q.signal.slot → ⊥) (λ q. q.signal.slot ≡ s → ⊥) (λ q k z. k (is ∙ sym z)) l h.0) in
        omega (arith, ap length none.0)

-- so that a slot which was removed is live no more
pub removed_gone : (s : ℕ) (l : List Entry) → Apart l → some (has s) (drop_first (has s) l) ≡ false
removed_gone s [] h = refl
removed_gone s (r ∷ l) h = at (eqb r.signal.slot s) refl (removed_gone s l h.1)
  where
    at : (b : Bool) → eqb r.signal.slot s ≡ b → some (has s) (drop_first (has s) l) ≡ false → some (has s) (cond b l (r ∷ drop_first (has s) l)) ≡ false
    at false e i = rw e i
    at true e i =
        let is : r.signal.slot ≡ s = eqb-true r.signal.slot s e in
        (none_kept s l (every_weaken (λ q. r.signal.slot ≡ q.signal.slot → ⊥) (λ q. q.signal.slot ≡ s → ⊥) (λ q k z. k (is ∙ sym z)) l h.0)).1
