-- Every table call leaves a regular table regular, and so does a move of the detectors.
-- Assumes nothing.
use mathlib.Core.Path.{◌≡◌, refl, sym, ap, ◌∙◌, subst}
use mathlib.Core.Logic.{inl, inr, ⊎_elim}
use mathlib.Core.List.{List, [], ◌∷◌, map}
use Prim.Native.Nat.{ℕ, ◌+◌, ◌≤◌, ◌<◌, min}
use native.Mathlib.Decide.{dec_le}
use native.Mathlib.Omega.{arith}
use lib.ListN.{length, length-map, length-take, take}
use Rattle.conversion.specs.declared.SignalDefinition.{SignalDefinition}
use Rattle.detector.specs.declared.EwmaDetector.{EwmaDetector}
use Rattle.std.specs.Prelude.{Ok}
use Rattle.table.specs.declared.Signal.{Signal}
use Rattle.table.specs.declared.Entry.{Entry}
use Rattle.table.specs.declared.SignalIdsEngine.{SignalIdsEngine}
use Rattle.table.specs.Rows.{every}
use Rattle.table.specs.Table.{Table, Told, accepted, refused, table_of, empty_table, with_rows, defined, fault, entry_of, below, placed_behind, has, appended, appended_all}
use Rattle.table.specs.Calls.{TableCall, Answer, defines, batches, removes, told, left, after, Event, calls, moves, with_detector, happened, ran}
use Rattle.table.specs.Regular.{Used, Proper, Regular}
use Rattle.table.proofs.Laws.{length_insert, length-drop-first}
use Rattle.table.proofs.Lists.{every_weaken, every_insert, every_drop, every_move, pairs_insert, pairs_drop, pairs_move, sorted_insert}
use Rattle.table.proofs.Columns.{table_engine}
use Rattle.table.proofs.Accepted.{DefineAccepted, define_accepted, RemoveAccepted, remove_accepted, BatchAccepted, batch_accepted, slots_enough}

-- no live slot is as high as the next one, so that a new one may take it
abbrev pub Unused : Table → Type 0
Unused t = every (λ r. r.signal.slot < t.next) t.rows

pub unused : (t : Table) → Regular t → (t.next ≡ 65535 → ⊥) → Unused t
unused t g h =
    every_weaken (Proper t.next) (λ r. r.signal.slot < t.next)
    (λ r p. ⊎_elim (λ (k : r.signal.slot < t.next). k) (λ (k : (r.signal.slot ≡ 65535) × (t.next ≡ 65535)). absurd (h k.1)) p.used)
    t.rows
    g.proper

-- a slot below the next one is used, also when the next one has moved on
still_used : (next s : ℕ) → next ≤ 65535 → s < next → Used (min (next + 1) 65535) s
still_used next s h k = inl (omega arith)

now_used : (next : ℕ) → next ≤ 65535 → Used (min (next + 1) 65535) next
now_used next h = go (dec_le 65535 next)
  where
    go : Dec (65535 ≤ next) → Used (min (next + 1) 65535) next
    go (yes k) = inr (omega arith, omega arith)
    go (no k) = inl (omega arith)

-- ---- a new row, for define and batch alike
module _ (limit : ℕ) (t : Table) (d : SignalDefinition) (low : d.can_id ≤ limit) (high : limit ≤ d.can_id + 1) where
  new : Entry
  new = entry_of t.fresh t.next d

  pub placed_keeps : fault d ≡ Ok tt → length t.rows < 64 → Unused t → Regular t → Regular (placed_behind limit t d)
  unfolding new
  placed_keeps ok room free g =
      record {
        few = omega (arith, length_insert (below limit) new t.rows);
        bound = omega arith;
        sorted = sorted_insert (λ r. r.id) limit new low high t.rows g.sorted;
        apart =
            pairs_insert (λ a b. a.signal.slot ≡ b.signal.slot → ⊥) (below limit) new t.rows
            (every_weaken (λ r. r.signal.slot < t.next) (λ r. (r.signal.slot ≡ t.next → ⊥) × (t.next ≡ r.signal.slot → ⊥)) (λ r k. (λ q. omega arith, λ q. omega arith)) t.rows free)
            g.apart;
        proper =
            every_insert (Proper (min (t.next + 1) 65535)) (below limit) new t.rows (record { id_is = refl; passes = ok; used = now_used t.next g.bound })
            (every_weaken (λ r. Proper t.next r × (r.signal.slot < t.next)) (Proper (min (t.next + 1) 65535))
            (λ r p. (record { id_is = p.0.id_is; passes = p.0.passes; used = still_used t.next r.signal.slot g.bound p.1 }))
            t.rows
            (both t.rows g.proper free));
      }
    where
      both : (l : List Entry) → every (Proper t.next) l → every (λ r. r.signal.slot < t.next) l → every (λ r. Proper t.next r × (r.signal.slot < t.next)) l
      both [] p q = tt
      both (r ∷ l) p q = ((p.0, q.0), both l p.1 q.1)

  pub placed_unused : t.next < 65535 → Unused t → Unused (placed_behind limit t d)
  unfolding new
  placed_unused h free =
      every_insert (λ r. r.signal.slot < min (t.next + 1) 65535) (below limit) new t.rows (omega arith)
      (every_weaken (λ r. r.signal.slot < t.next) (λ r. r.signal.slot < min (t.next + 1) 65535) (λ r k. omega arith) t.rows free)

all_keep : (l : List SignalDefinition) (t : Table)
    → every (λ d. fault d ≡ Ok tt) l
    → length t.rows + length l ≤ 64
    → t.next + length l ≤ 65536
    → Unused t
    → Regular t
    → Regular (appended_all t l)
all_keep [] t ok room slots free g = g
all_keep (d ∷ []) t ok room slots free g = placed_keeps (d.can_id + 1) t d (omega arith) (omega arith) ok.0 (omega arith) free g
all_keep (d ∷ c ∷ l) t ok room slots free g =
    let q : ℕ = d.can_id + 1 in
    let one = length_insert (below q) (entry_of t.fresh t.next d) t.rows in
    all_keep (c ∷ l) (appended t d) ok.1 (omega arith) (omega arith) (placed_unused q t d (omega arith) (omega arith) (omega arith) free)
    (placed_keeps q t d (omega arith) (omega arith) ok.0 (omega arith) free g)

-- an accepted call leaves a regular table
pub accepted_keeps : (t : Table) (c : TableCall) (a : Answer c) (u : Table) → Regular t → told t c ≡ accepted a u → Regular u
accepted_keeps t (defines d) a u g e =
    let f : DefineAccepted t d a u = define_accepted t d a u e in
    subst Regular (sym f.table) (placed_keeps d.can_id t d (omega arith) (omega arith) f.passes f.room (unused t g f.unspent) g)
accepted_keeps t (batches ds n) a u g e =
    let f : BatchAccepted t ds n u = batch_accepted t ds n a u e in
    subst Regular (sym f.table)
    (⊎_elim (λ (z : n ≡ 0). subst (λ (j : ℕ). Regular (appended_all t (take j ds))) (sym z) g)
    (λ (h : (t.next < 65535) × (t.next + n ≤ 65536)).
    all_keep (take n ds) t f.passes (omega (arith, f.room, length-take n ds)) (omega (arith, h.1, length-take n ds)) (unused t g (λ q. omega (arith, h.0))) g)
    (slots_enough n t.next g.bound f.slots))
accepted_keeps t (removes s) a u g e =
    let f : RemoveAccepted t s u = remove_accepted t s a u e in
    subst Regular (sym f.table)
    (record {
      few = omega (arith, g.few, length-drop-first (has s) t.rows f.there);
      bound = g.bound;
      sorted = pairs_drop (λ a b. a.id ≤ b.id) (has s) t.rows g.sorted;
      apart = pairs_drop (λ a b. a.signal.slot ≡ b.signal.slot → ⊥) (has s) t.rows g.apart;
      proper = every_drop (Proper t.next) (has s) t.rows g.proper;
    })

-- rows whose identifier, slot and definition stay, as when a frame moves their detectors
pub moves_keep : (t : Table) (g : Entry → Entry) → ((r : Entry) → (g r).id ≡ r.id) → ((r : Entry) → (g r).signal ≡ r.signal) → Regular t → Regular (with_rows t (map g t.rows))
moves_keep t g same_id same-signal k =
    record {
      few = omega (arith, k.few, length-map t.rows g);
      bound = k.bound;
      sorted = pairs_move (λ a b. a.id ≤ b.id) g (λ a b h. omega (arith, same_id a, same_id b)) t.rows k.sorted;
      apart =
          pairs_move (λ a b. a.signal.slot ≡ b.signal.slot → ⊥) g
          (λ a b h q. h (sym (ap (λ (s : Signal). s.slot) (same-signal a)) ∙ q ∙ ap (λ (s : Signal). s.slot) (same-signal b)))
          t.rows
          k.apart;
      proper =
          every_move (Proper t.next) g
          (λ r p.
          (record {
            id_is = same_id r ∙ p.id_is ∙ sym (ap (λ (s : Signal). s.definition.can_id) (same-signal r));
            passes = ap (λ (s : Signal). fault s.definition) (same-signal r) ∙ p.passes;
            used = subst (λ (s : Signal). Used t.next s.slot) (sym (same-signal r)) p.used;
          }))
          t.rows
          k.proper;
    }

-- ---- any sequence of calls, with moves of the detectors between them
pub after_keeps : (t : Table) (c : TableCall) → Regular t → Regular (after t c)
after_keeps t c g = go (told t c) refl
  where
    go : (x : Told (Answer c)) → told t c ≡ x → Regular (left t x)
    go (accepted a u) e = accepted_keeps t c a u g e
    go (refused k) e = g

pub happened_keeps : (t : Table) (v : Event) → Regular t → Regular (happened t v)
happened_keeps t (calls c) g = after_keeps t c g
happened_keeps t (moves m) g = moves_keep t (with_detector m) (λ r. refl) (λ r. refl) g

pub ran_keeps : (vs : List Event) (t : Table) → Regular t → Regular (ran t vs)
ran_keeps [] t g = g
ran_keeps (v ∷ vs) t g = ran_keeps vs (happened t v) (happened_keeps t v g)

pub empty_regular : (f : EwmaDetector) → Regular (empty_table f)
empty_regular f = record { few = omega arith; bound = omega arith; sorted = tt; apart = tt; proper = tt }

-- every table that calls make, from the one that `new` gives, whatever the detectors did between them
pub made_regular : (f : EwmaDetector) (vs : List Event) → Regular (ran (empty_table f) vs)
made_regular f vs = ran_keeps vs (empty_table f) (empty_regular f)

-- an engine under the promise of a call holds the table after the call
pub follows : {A : Type 0} (e : SignalIdsEngine) (x : Told A) → table_of (defined e x).engine ≡ left (table_of e) x
follows e (accepted a t) = table_engine t
follows e (refused k) = refl
