-- What follows of the promises: a definition that passes the tests, the count of rows, and what an answer says.
-- Assumes nothing.
use mathlib.Core.Path.{◌≡◌, refl, sym, ap, ◌∙◌}
use mathlib.Core.Bool.{Bool, true, false, ◌&&◌, cond}
use Prim.Native.Nat.{ℕ, ◌+◌, ◌≤◌}
use native.Mathlib.Omega.{arith}
use lib.Dec.{leb}
use lib.Ieee.Scale.{finite}
use lib.ListN.{length, take}
use borrow.Author.Tests.{leb-true}
use Rattle.bits.proofs.Laws.{both_true}
use Rattle.conversion.specs.declared.SignalDefinition.{SignalDefinition}
use Rattle.std.specs.Prelude.{Ok, Err}
use Rattle.table.specs.declared.TableError.{TableError}
use Rattle.table.specs.declared.TableError.TheVariants.{BusError, InvalidInput, ResourceExhausted}
use Rattle.table.specs.declared.SignalIdsEngine.{SignalIdsEngine}
use Rattle.table.specs.Rows.{every}
use Rattle.table.specs.Table.{Table, Told, accepted, refused, error_number, table_of, defined, length_ok, scale_ok, id_ok, mux_ok, sign_ok, fault, entry_of, below, has}
use Rattle.table.specs.Calls.{TableCall, Answer, defines, batches, removes, told, brought, taken_out}
use Rattle.table.specs.Regular.{Proper, Regular}
use Rattle.table.proofs.Laws.{length_insert, length-drop-first}
use Rattle.table.proofs.Lists.{every_weaken}
use Rattle.table.proofs.Answers.{length-appended}
use Rattle.table.proofs.Accepted.{DefineAccepted, define_accepted, RemoveAccepted, remove_accepted, BatchAccepted, batch_accepted}

-- ---- the five tests of document 01, of a definition that has no fault
pub record Passing (d : SignalDefinition) : Type 0 where
  pub long : 1 ≤ d.bit_length
  pub short : d.bit_length ≤ 64
  pub scale : finite d.scale ≡ true
  pub offset : finite d.offset ≡ true
  pub standard : d.is_extended ≡ false → d.can_id ≤ 0x7FF
  pub extended : d.can_id ≤ 0x1FFFFFFF
  pub multiplexor : d.is_multiplexor ≡ true → d.bit_length ≤ 16
  pub sign : d.signed ≡ true → 2 ≤ d.bit_length

low_id : (x : Bool) (n : ℕ) → n ≤ cond x 0x1FFFFFFF 0x7FF → n ≤ 0x1FFFFFFF
low_id true n h = h
low_id false n h = omega arith

pub passing : (d : SignalDefinition) → fault d ≡ Ok tt → Passing d
unfolding length_ok scale_ok id_ok mux_ok sign_ok
passing d = go (length_ok d) refl (scale_ok d && id_ok d && mux_ok d && sign_ok d) refl
  where
    go : (a : Bool) → length_ok d ≡ a → (b : Bool) → (scale_ok d && id_ok d && mux_ok d && sign_ok d) ≡ b → cond a (cond b (Ok (tt {0})) (Err InvalidInput)) (Err BusError) ≡ Ok tt → Passing d
    go true p true q h =
        let length-is = both_true (leb 1 d.bit_length) (leb d.bit_length 64) p in
        let all = both_true (scale_ok d && id_ok d && mux_ok d) (sign_ok d) q in
        let three = both_true (scale_ok d && id_ok d) (mux_ok d) all.0 in
        let two = both_true (scale_ok d) (id_ok d) three.0 in
        let finite-are = both_true (finite d.scale) (finite d.offset) two.0 in
        let id_is : d.can_id ≤ cond d.is_extended 0x1FFFFFFF 0x7FF = leb-true d.can_id (cond d.is_extended 0x1FFFFFFF 0x7FF) two.1 in
        record {
          long = leb-true 1 d.bit_length length-is.0;
          short = leb-true d.bit_length 64 length-is.1;
          scale = finite-are.0;
          offset = finite-are.1;
          standard = λ e. omega (arith, ap {B = ℕ} (λ (x : Bool). cond x 0x1FFFFFFF 0x7FF) e);
          extended = low_id d.is_extended d.can_id id_is;
          multiplexor = λ e. leb-true d.bit_length 16 (sym (ap (λ (x : Bool). cond x (leb d.bit_length 16) true) e) ∙ three.1);
          sign = λ e. leb-true 2 d.bit_length (sym (ap (λ (x : Bool). cond x (leb 2 d.bit_length) true) e) ∙ all.1);
        }
    go true p false q h = cc
    go false p b q h = cc

-- every live definition passes; so a multiplexor has at most 16 bits
pub live_passing : (t : Table) → Regular t → every (λ r. Passing r.signal.definition) t.rows
live_passing t g = every_weaken (Proper t.next) (λ r. Passing r.signal.definition) (λ r p. passing r.signal.definition p.passes) t.rows g.proper

-- ---- how many rows there are after an accepted call
pub count_after : (t : Table) (c : TableCall) (a : Answer c) (u : Table) → told t c ≡ accepted a u → length u.rows + taken_out c ≡ length t.rows + length (brought c)
count_after t (defines d) a u e =
    let f : DefineAccepted t d a u = define_accepted t d a u e in
    omega (arith, ap (λ (v : Table). length v.rows) f.table, length_insert (below d.can_id) (entry_of t.fresh t.next d) t.rows)
count_after t (batches ds n) a u e =
    let f : BatchAccepted t ds n u = batch_accepted t ds n a u e in
    omega (arith, ap (λ (v : Table). length v.rows) f.table, length-appended (take n ds) t)
count_after t (removes s) a u e =
    let f : RemoveAccepted t s u = remove_accepted t s a u e in
    omega (arith, ap (λ (v : Table). length v.rows) f.table, length-drop-first (has s) t.rows f.there)

-- ---- an answer tells the case
-- the refusal k is answered exactly where document 01 refuses with its number
pub refused_is : (e : SignalIdsEngine) (c : TableCall) (k : TableError) → told (table_of e) c ≡ refused k → defined e (told (table_of e) c) ≡ record { answer = Err k; engine = e }
refused_is e c k h = ap (defined e) h

pub refused_only : (e : SignalIdsEngine) (c : TableCall) (k : TableError) → (defined e (told (table_of e) c)).answer ≡ Err k → told (table_of e) c ≡ refused k
refused_only e c k = go (told (table_of e) c)
  where
    go : (x : Told (Answer c)) → (defined e x).answer ≡ Err k → x ≡ refused k
    go (refused j) i = let same : j ≡ k = cc in ap refused same
    go (accepted a u) i = cc

-- and the number tells the refusal
pub number_only : (j k : TableError) → error_number j ≡ error_number k → j ≡ k
number_only BusError BusError h = refl
number_only InvalidInput InvalidInput h = refl
number_only ResourceExhausted ResourceExhausted h = refl
number_only BusError InvalidInput h = absurd (omega arith)
number_only BusError ResourceExhausted h = absurd (omega arith)
number_only InvalidInput BusError h = absurd (omega arith)
number_only InvalidInput ResourceExhausted h = absurd (omega arith)
number_only ResourceExhausted BusError h = absurd (omega arith)
number_only ResourceExhausted InvalidInput h = absurd (omega arith)
