-- The search for the multiplexor, from row to row.
-- Assumes nothing.
use mathlib.Core.Path.{◌≡◌, refl, sym, ap, subst, ◌∙◌}
use mathlib.Core.Bool.{Bool, true, false}
use mathlib.Core.Logic.{◌⊎◌, inl, inr}
use mathlib.Core.List.{List, ◌∷◌}
use Prim.Native.Nat.{ℕ, zero, suc, ◌+◌, ◌-◌, ◌≤◌, ◌<◌}
use native.Mathlib.Numerals.{add-one}
use native.Mathlib.Omega.{arith}
use Rattle.std.proofs.Common.{Option, None, Result, Ok, Err}
use Rattle.std.specs.Result.{result_ok}
use lib.Dec.{eqb}
use lib.ListN.{length, get_or, take, drop, length-drop, drop_of_length-le}
use lib.Seq.{length-take-le, get_or-take}
use Rattle.std.proofs.lemmas.List.{drop_more, drop-take}
use Rattle.bits.specs.declared.RawError.{RawError}
use Rattle.bits.specs.declared.RawError.TheVariants.{BadLength, Outside}
use Rattle.bits.specs.Answers.{raw_means}
use Rattle.detector.proofs.Told.{chosen, other}
use Rattle.table.specs.declared.Entry.{Entry}
use Rattle.table.specs.declared.Signal.{Signal}
use Rattle.table.specs.Table.{rows_of}
use Rattle.table.proofs.Laws.{first_hit, first_next}
use Rattle.detector.proofs.Blank.{blank}
use Rattle.table.proofs.Columns.{Sound, past, past_signal, length_rows, row_is}
use Rattle.frames.specs.Frames.{applies, selects, numbered, number_of, multiplexor_of}
use Rattle.frames.proofs.Rows.{read, not_named, Visit, rows, long}

abbrev pub mux_from : Visit → List Entry → Option ℕ
mux_from v = multiplexor_of v.key.id v.key.extended v.payload (length v.payload)

-- whether a row of the key is its multiplexor is its flag; no other row is
module _ (id : ℕ) (x : Bool) (row : Entry) where
  pub selected_by : {b : Bool} → applies id x row ≡ true → row.signal.definition.is_multiplexor ≡ b → selects id x row ≡ b
  selected_by h k = chosen _ _ h ∙ k

  pub not_selected : applies id x row ≡ false → selects id x row ≡ false
  not_selected h = other _ _ h

-- a raw number that is read is the number, and a refusal is none
pub number_is : (q : Result ℕ RawError) → result_ok q ≡ numbered (raw_means q)
number_is (Ok x) = refl
number_is (Err BadLength) = refl
number_is (Err Outside) = refl

module _ (v : Visit) (good : Sound v.engine) (few : v.n ≤ 64) where
  enough : v.n ≤ length (rows_of v.engine)
  enough = omega (arith, length_rows v.engine good)

  -- m is what is left to the search from row i on
  module _ {m : Option ℕ} (i : ℕ) (left : m ≡ mux_from v (drop i (rows v))) where
    module _ (more : i < v.n) where
      -- row i is the multiplexor
      pub search_hit : selects v.key.id v.key.extended (read v.engine i) ≡ true → number_of v.payload (length v.payload) (read v.engine i).signal.definition ≡ m
      search_hit h =
          ap (λ (row : Entry). number_of v.payload (length v.payload) row.signal.definition) (row_is v.engine good i)
          ∙ first_hit (selects v.key.id v.key.extended) (λ row. number_of v.payload (length v.payload) row.signal.definition) None (rows_of v.engine) v.n i past more enough
          (ap (selects v.key.id v.key.extended) (sym (row_is v.engine good i)) ∙ h)
          left

      -- it is not
      pub search_next : selects v.key.id v.key.extended (read v.engine i) ≡ false → m ≡ mux_from v (drop (i + 1) (rows v))
      search_next h =
          first_next (selects v.key.id v.key.extended) (λ row. number_of v.payload (length v.payload) row.signal.definition) None (rows_of v.engine) v.n i past more enough
          (ap (selects v.key.id v.key.extended) (sym (row_is v.engine good i)) ∙ h)
          left

  -- no row before k has the identifier
  pub search_from : (k : ℕ) → k ≤ v.n → ((j : ℕ) → j < k → eqb (get_or v.engine.ids j 0) v.key.id ≡ false) → mux_from v (rows v) ≡ mux_from v (drop k (rows v))
  search_from zero h out = refl
  search_from (suc k) h out =
      search_next k (search_from k (omega arith) (λ j l. out j (omega arith))) (omega arith)
      (not_selected v.key.id v.key.extended (read v.engine k) (not_named v.key.id v.key.extended (read v.engine k) (out k (omega arith))))
      ∙ ap (λ (j : ℕ). mux_from v (drop j (rows v))) (add-one k)

-- ---- the rows from k up to n, cut out of a column
cut_is : {A : Type 0} (k n : ℕ) (xs : List A) → k ≤ n → take (n - k) (drop k xs) ≡ drop k (take n xs)
cut_is k n xs h = sym (drop-take k (n - k) xs) ∙ ap (λ (j : ℕ). drop k (take j xs)) (omega arith)

-- ---- what is left of a column from row i on, as it is taken row by row
module _ {A : Type 0} (xs : List A) (n i : ℕ) (enough : n ≤ length xs) (inside : i ≤ n) where
  left_long : length (drop i (take n xs)) + i ≡ n
  left_long = omega (arith, length-drop i (take n xs), length-take-le n xs enough)

  pub column_end : (rest : List A) → rest ≡ drop i (take n xs) → length rest ≡ 0 → n ≤ i
  column_end rest e z = let z : length (drop i (take n xs)) ≡ 0 = sym (ap length e) ∙ z in omega (arith, left_long)

  pub column_step : (d x : A) (rest : List A) → drop i (take n xs) ≡ x ∷ rest → (i < n) × (x ≡ get_or xs i d) × (rest ≡ drop (i + 1) (take n xs))
  column_step d x rest e =
      let more : i < n = (let z : length (drop i (take n xs)) ≡ suc (length rest) = ap length e in omega (arith, left_long)) in
      let is : x ∷ rest ≡ get_or (take n xs) i d ∷ drop (i + 1) (take n xs) = sym e ∙ drop_more (take n xs) i d (omega (arith, length-take-le n xs enough)) in
      (more, ap (λ (l : List A). get_or l 0 d) is ∙ get_or-take n xs i d more, ap (λ (l : List A). drop 1 l) is)

-- what the two columns have left at row i, and the search with it
pub record Seeking (v : Visit) (m : Option ℕ) (ids : List ℕ) (signals : List Signal) (i : ℕ) : Type 0 where
  pub inside : i ≤ v.n
  pub ids_left : ids ≡ drop i (take v.n v.engine.ids)
  pub signals_left : signals ≡ drop i (take v.n v.engine.signals)
  pub left : m ≡ mux_from v (drop i (rows v))

-- both columns are cut at the first row that is looked at
pub seeking_from : (v : Visit) (k : ℕ) {ids : List ℕ} {signals : List Signal} → k ≤ v.n
    → ids ≡ take (v.n - k) (drop k v.engine.ids) → signals ≡ take (v.n - k) (drop k v.engine.signals) → Seeking v (mux_from v (drop k (rows v))) ids signals (k + 0)
seeking_from v k h e1 e2 = subst (Seeking v _ _ _) (omega arith) (record {
  inside = h;
  ids_left = e1 ∙ cut_is k v.n v.engine.ids h;
  signals_left = e2 ∙ cut_is k v.n v.engine.signals h;
  left = refl;
})

-- each column gives its first
pub taken_off : {v : Visit} {m : Option ℕ} {ids ids2 : List ℕ} {signals signals2 : List Signal} {i x : ℕ} {y : Signal}
    → Seeking v m ids signals i → (ids ≡ x ∷ ids2) × (signals ≡ y ∷ signals2) → Seeking v m (x ∷ ids2) (y ∷ signals2) i
taken_off at gave = record { inside = at.inside; ids_left = sym gave.0 ∙ at.ids_left; signals_left = sym gave.1 ∙ at.signals_left; left = at.left }

module _ (v : Visit) (good : Sound v.engine) (few : v.n ≤ 64) {m : Option ℕ} {i : ℕ} where
  module _ {x : ℕ} {y : Signal} {ids : List ℕ} {signals : List Signal} (at : Seeking v m (x ∷ ids) (y ∷ signals) i) where
    taken_id : (i < v.n) × (x ≡ get_or v.engine.ids i 0) × (ids ≡ drop (i + 1) (take v.n v.engine.ids))
    taken_id = column_step v.engine.ids v.n i (omega (arith, good.ids_64)) at.inside 0 x ids (sym at.ids_left)

    taken_signal : (i < v.n) × (y ≡ get_or v.engine.signals i past_signal) × (signals ≡ drop (i + 1) (take v.n v.engine.signals))
    taken_signal = column_step v.engine.signals v.n i (omega (arith, good.signals_64)) at.inside past_signal y signals (sym at.signals_left)

    -- the row that is taken is row i
    selects_read : {b : Bool} → selects v.key.id v.key.extended (record { id = x; signal = y; detector = blank }) ≡ b → selects v.key.id v.key.extended (read v.engine i) ≡ b
    selects_read h = ap (λ (k : ℕ). selects v.key.id v.key.extended (record { id = k; signal = get_or v.engine.signals i past_signal; detector = blank })) (sym taken_id.1)
        ∙ ap (λ (s : Signal). selects v.key.id v.key.extended (record { id = x; signal = s; detector = blank })) (sym taken_signal.1) ∙ h

    pub taken_hit : selects v.key.id v.key.extended (record { id = x; signal = y; detector = blank }) ≡ true → number_of v.payload (length v.payload) y.definition ≡ m
    taken_hit h = ap (λ (s : Signal). number_of v.payload (length v.payload) s.definition) taken_signal.1 ∙ search_hit v good few i at.left taken_id.0 (selects_read h)

    pub taken_next : selects v.key.id v.key.extended (record { id = x; signal = y; detector = blank }) ≡ false → Seeking v m ids signals (i + 1)
    taken_next h = record {
      inside = omega (arith, taken_id.0);
      ids_left = taken_id.2;
      signals_left = taken_signal.2;
      left = search_next v good few i at.left taken_id.0 (selects_read h);
    }

  -- where a column has none left, no row is left
  module _ {ids : List ℕ} {signals : List Signal} (at : Seeking v m ids signals i) where
    pub none_taken : (length ids ≡ 0) ⊎ (length signals ≡ 0) → None ≡ m
    none_taken empty =
        let past_end : v.n ≤ i = elim empty [
          | inl z ↦ column_end v.engine.ids v.n i (omega (arith, good.ids_64)) at.inside ids at.ids_left z
          | inr z ↦ column_end v.engine.signals v.n i (omega (arith, good.signals_64)) at.inside signals at.signals_left z
        ] in
        ap (mux_from v) (sym (drop_of_length-le (rows v) (omega (arith, long v good few)))) ∙ sym at.left
