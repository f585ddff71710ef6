-- When a table call is accepted, and with what.
-- Assumes nothing.
use mathlib.Core.Path.{◌≡◌, refl}
use mathlib.Core.Bool.{Bool, true, false, cond}
use mathlib.Core.List.{List, [], ◌∷◌}
use mathlib.Core.Logic.{◌⊎◌, inl, inr}
use Prim.Native.Nat.{ℕ, ◌+◌, ◌-◌, ◌≤◌, ◌<◌}
use native.Mathlib.Omega.{arith}
use lib.Dec.{eqb, leb, ltb}
use Rattle.std.specs.Prelude.{Result, Ok, Err, is_err}
use lib.ListN.{length, take}
use borrow.Author.Tests.{eqb-true, eqb-false, ltb-true, leb-true}
use Rattle.conversion.specs.declared.SignalDefinition.{SignalDefinition}
use Rattle.table.specs.declared.TableError.{TableError}
use Rattle.table.specs.declared.TableError.TheVariants.{InvalidInput, ResourceExhausted}
use Rattle.table.specs.Rows.{every, some}
use Rattle.table.specs.Table.{Table, accepted, refused, unless, fault, faults, slots_ok, has, define', added, remove', without, batch', appended_all}

-- define: the five tests are passed, there is room and a slot number
pub record DefineAccepted (t : Table) (d : SignalDefinition) (a : ℕ) (u : Table) : Type 0 where
  pub passes : fault d ≡ Ok tt
  pub room : length t.rows < 64
  pub unspent : t.next ≡ 65535 → ⊥
  pub answer : a ≡ t.next
  pub table : u ≡ added t d

pub define_accepted : (t : Table) (d : SignalDefinition) (a : ℕ) (u : Table) → define' t d ≡ accepted a u → DefineAccepted t d a u
define_accepted t d a u = go (fault d) refl (ltb (length t.rows) 64) refl (eqb t.next 65535) refl
  where
    go : (r : Result (Unit {0}) TableError) → fault d ≡ r → (c : Bool) → ltb (length t.rows) 64 ≡ c → (f : Bool) → eqb t.next 65535 ≡ f
        → unless r (cond c (cond f (refused ResourceExhausted) (accepted t.next (added t d))) (refused ResourceExhausted)) ≡ accepted a u
        → DefineAccepted t d a u
    go (Ok v) p true q false r h =
        record {
          passes = p;
          room = ltb-true (length t.rows) 64 q;
          unspent = eqb-false t.next 65535 r;
          answer = cc;
          table = cc;
        }
    go (Ok v) p true q true r h = cc
    go (Ok v) p false q f r h = cc
    go (Err k) p c q f r h = cc

-- removal: a row has the slot
pub record RemoveAccepted (t : Table) (s : ℕ) (u : Table) : Type 0 where
  pub there : some (has s) t.rows ≡ true
  pub table : u ≡ without t s

pub remove_accepted : (t : Table) (s : ℕ) (a : Unit {0}) (u : Table) → remove' t s ≡ accepted a u → RemoveAccepted t s u
remove_accepted t s a u = go (some (has s) t.rows) refl
  where
    go : (b : Bool) → some (has s) t.rows ≡ b → cond b (accepted tt (without t s)) (refused InvalidInput) ≡ accepted a u → RemoveAccepted t s u
    go true p h = record { there = p; table = cc }
    go false p h = cc

-- a batch: there is room, each definition passes the five tests, and there are slot numbers
pub record BatchAccepted (t : Table) (ds : List SignalDefinition) (n : ℕ) (u : Table) : Type 0 where
  pub room : length t.rows + n ≤ 64
  pub passes : every (λ d. fault d ≡ Ok tt) (take n ds)
  pub slots : slots_ok n t.next ≡ true
  pub table : u ≡ appended_all t (take n ds)

-- no first fault is no fault
pub faultless : (l : List SignalDefinition) → faults l ≡ Ok tt → every (λ d. fault d ≡ Ok tt) l
faultless [] h = tt
faultless (d ∷ l) h = go (fault d) refl h (λ k. faultless l k)
  where
    go : (r : Result (Unit {0}) TableError) → fault d ≡ r → cond (is_err r) (fault d) (faults l) ≡ Ok tt → (faults l ≡ Ok tt → every (λ c. fault c ≡ Ok tt) l) → (fault d ≡ Ok tt) × every (λ c. fault c ≡ Ok tt) l
    go (Ok v) p k rest = (p, rest k)
    go (Err e) p k rest = cc

pub batch_accepted : (t : Table) (ds : List SignalDefinition) (n : ℕ) (a : Unit {0}) (u : Table) → batch' t ds n ≡ accepted a u → BatchAccepted t ds n u
batch_accepted t ds n a u =
    go (leb (length t.rows + n) 64) refl (faults (take n ds)) refl (slots_ok n t.next) refl
  where
    go : (b : Bool) → leb (length t.rows + n) 64 ≡ b → (r : Result (Unit {0}) TableError) → faults (take n ds) ≡ r → (f : Bool) → slots_ok n t.next ≡ f
        → cond b (unless r (cond f (accepted tt (appended_all t (take n ds))) (refused ResourceExhausted))) (refused ResourceExhausted) ≡ accepted a u
        → BatchAccepted t ds n u
    go true p (Ok v) q true r h =
        record { room = leb-true (length t.rows + n) 64 p; passes = faultless (take n ds) q; slots = r; table = cc }
    go true p (Ok v) q false r h = cc
    go true p (Err k) q f r h = cc
    go false p c q f r h = cc

-- the slot numbers of a batch: none for an empty one; else the next slot is not yet 65,535, and they go up to 65,535
pub slots_enough : (n next : ℕ) → next ≤ 65535 → slots_ok n next ≡ true → (n ≡ 0) ⊎ ((next < 65535) × (next + n ≤ 65536))
unfolding slots_ok
slots_enough n next h = go (eqb n 0) refl (eqb next 65535) refl (leb n 1) refl
  where
    go : (b : Bool) → eqb n 0 ≡ b → (c : Bool) → eqb next 65535 ≡ c → (f : Bool) → leb n 1 ≡ f
        → cond b true (cond c false (cond f true (leb n (65535 - next + 1)))) ≡ true
        → (n ≡ 0) ⊎ ((next < 65535) × (next + n ≤ 65536))
    go true p c q f r k = inl (eqb-true n 0 p)
    go false p true q f r k = cc
    go false p false q true r k = inr (omega (arith, eqb-false next 65535 q), omega (arith, eqb-false next 65535 q, leb-true n 1 r))
    go false p false q false r k = inr (omega (arith, eqb-false next 65535 q), omega (arith, eqb-false next 65535 q, leb-true n (65535 - next + 1) k))
