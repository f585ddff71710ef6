-- The rows that a frame visits: those of another identifier or type stay, have no report and are no multiplexor.
-- Assumes nothing.
use mathlib.Core.Path.{◌≡◌, refl, sym, ap, ◌∙◌}
use mathlib.Core.Bool.{Bool, true, false, not, cond}
use mathlib.Core.List.{List}
use Prim.Native.Nat.{ℕ, ◌≤◌, ◌<◌}
use Rattle.std.proofs.Common.{◌==◌, Option, Some, None, unwrap_or}
use Rattle.std.specs.List.{position, position_or_len}
use Rattle.std.proofs.lemmas.List.Sums.{fails_before_first}
use Rattle.std.proofs.lemmas.List.Sums.{prefix_len-le-length}
use native.Mathlib.Omega.{arith}
use lib.Dec.{eqb, ltb}
use borrow.Author.Tests.{eqb-true, ltb-false}
use lib.ListN.{length, get_or, take}
use lib.Seq.{length-take-le, get_or-take}
use Rattle.detector.proofs.Blank.{blank}
use Rattle.table.specs.declared.Entry.{Entry}
use Rattle.table.specs.declared.SignalIdsEngine.{SignalIdsEngine}
use Rattle.table.specs.Table.{rows_of}
use Rattle.table.proofs.Columns.{Sound, past, past_signal, length_rows, row_is}
use Rattle.frames.specs.declared.Key.{Key}
use Rattle.frames.specs.Frames.{same, same_key, applies, step_row, next_of}

-- ---- one key or two
types_same : (f g : Bool) → same f g ≡ true → f ≡ g
types_same true true h = refl
types_same true false h = sym h
types_same false true h = h
types_same false false h = refl

pub key_is : (a : ℕ) (f : Bool) (b : ℕ) (g : Bool) → same_key a f b g ≡ true → (a ≡ b) × (f ≡ g)
key_is a f b g = go (eqb a b) refl
  where
    go : (t : Bool) → eqb a b ≡ t → cond t (same f g) false ≡ true → (a ≡ b) × (f ≡ g)
    go true e h = (eqb-true a b e, types_same f g h)
    go false e h = let z : ◌≡◌ {A = ℕ} 0 1 = cc in absurd (omega arith)

-- row i of an engine, as the loops read it
abbrev pub read : SignalIdsEngine → ℕ → Entry
read e i = record { id = get_or e.ids i 0; signal = get_or e.signals i past_signal; detector = get_or e.detectors i blank }

-- a row of another identifier doesn't apply
pub not_named : (id : ℕ) (x : Bool) (row : Entry) → eqb row.id id ≡ false → applies id x row ≡ false
not_named id x row h = ap (λ (b : Bool). cond b (same row.signal.definition.is_extended x) false) h

-- a row that doesn't apply stays
pub next_stays : (id : ℕ) (x : Bool) (s : List ℕ) (len : ℕ) (m : Option ℕ) (row : Entry) → applies id x row ≡ false → next_of id x s len m row ≡ row
next_stays id x s len m row h = ap (λ (b : Bool). (record { id = row.id; signal = row.signal; detector = cond b (step_row s len m row).detector row.detector })) h

-- ---- what a loop goes over: the first n rows of an engine, and a frame by its key and its payload
pub record Visit : Type 0 where
  pub engine : SignalIdsEngine
  pub n : ℕ
  pub key : Key
  pub payload : List ℕ

abbrev pub rows : Visit → List Entry
rows v = take v.n (rows_of v.engine)

module _ (v : Visit) (good : Sound v.engine) (few : v.n ≤ 64) where
  pub long : length (rows v) ≡ v.n
  long = length-take-le v.n (rows_of v.engine) (omega (arith, length_rows v.engine good))

  pub row_read : (i : ℕ) → i < v.n → get_or (rows v) i past ≡ read v.engine i
  row_read i h = get_or-take v.n (rows_of v.engine) i past h ∙ sym (row_is v.engine good i)

-- ---- the first of the first n rows with the identifier, or n: no row before it has the identifier
or_all : (a n : ℕ) → a ≤ n → unwrap_or (cond (ltb a n) (Some a) None) n ≡ a
or_all a n h = at (ltb a n) refl
  where
    at : (b : Bool) → ltb a n ≡ b → unwrap_or (cond b (Some a) None) n ≡ a
    at true e = refl
    at false e = omega (arith, ltb-false a n e)

pub first_named : (id n k : ℕ) (ids : List ℕ) {r : Option ℕ} → n ≤ length ids → r ≡ position (λ i. i == id) (take n ids) → k ≡ unwrap_or r n
    → (k ≤ n) × ((j : ℕ) → j < k → eqb (get_or ids j 0) id ≡ false)
first_named id n k ids long e h =
    let p : ℕ → Bool = λ i. i == id in
    let all : length (take n ids) ≡ n = length-take-le n ids long in
    let at : ℕ = position_or_len p (take n ids) in
    let least : at ≤ n = omega (arith, prefix_len-le-length (λ i. not (p i)) (take n ids)) in
    let is : k ≡ at =
    h ∙ ap (λ (q : Option ℕ). unwrap_or q n) e ∙ ap (λ (m : ℕ). unwrap_or (cond (ltb at m) (Some at) None) n) all ∙ or_all at n least in
    (omega arith, λ j less. ap p (sym (get_or-take n ids j 0 (omega arith))) ∙ fails_before_first p (take n ids) j 0 (omega arith))
