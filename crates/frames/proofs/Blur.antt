-- A table blurred for a key: each detector that isn't the key's is made fresh. Table calls and frames of the key commute with the blur, and another
-- key's frame leaves it as it was.
-- Assumes nothing.
use mathlib.Core.Path.{◌≡◌, refl, sym, ap, ◌∙◌}
use mathlib.Core.Bool.{Bool, true, false, cond}
use mathlib.Core.List.{List, [], ◌∷◌, map}
use Prim.Native.Nat.{ℕ, ◌+◌}
use Rattle.std.proofs.Common.{Option, Result, Ok, Err}
use lib.Dec.{eqb, ltb, leb}
use lib.ListN.{length, length-map, take}
use Rattle.conversion.specs.declared.SignalDefinition.{SignalDefinition}
use Rattle.detector.specs.declared.EwmaDetector.{EwmaDetector}
use Rattle.table.specs.declared.TableError.{TableError}
use Rattle.table.specs.declared.TableError.TheVariants.{InvalidInput, ResourceExhausted}
use Rattle.table.specs.declared.Entry.{Entry}
use Rattle.table.specs.Rows.{keep, some, drop_first, insert_behind}
use Rattle.table.specs.Table.{Table, Told, accepted, refused, unless, with_rows, fault, faults, slots_ok, entry_of, below, has, without, added, appended, appended_all, define', remove', batch'}
use Rattle.table.specs.Calls.{TableCall, defines, batches, removes, told}
use Rattle.frames.specs.Frames.{same_key, applies, selects, number_of, multiplexor_of, next_of, advanced, report_of, reports}
use Rattle.frames.proofs.Rows.{key_is, next_stays}

-- ---- two keys
-- a row of another key's frame is none of the key's
apart : (id : ℕ) (x : Bool) (i : ℕ) (f : Bool) (row : Entry) → same_key i f id x ≡ false → applies i f row ≡ true → applies id x row ≡ false
apart id x i f row n h =
    let k = key_is row.id row.signal.definition.is_extended i f h in
    ap (λ (a : ℕ). same_key a row.signal.definition.is_extended id x) k.0 ∙ ap (λ (g : Bool). same_key i g id x) k.1 ∙ n

-- ---- what a map that keeps a test leaves
module _ {ℓ} {A : Type ℓ} (g : A → A) (p : A → Bool) (same : (a : A) → p (g a) ≡ p a) where
  map_insert : (x : A) (l : List A) → map g (insert_behind p x l) ≡ insert_behind p (g x) (map g l)
  map_insert x [] = refl
  map_insert x (a ∷ l) = at (map_insert x l) (p a) ∙ ap (λ (b : Bool). cond b (g a ∷ insert_behind p (g x) (map g l)) (g x ∷ g a ∷ map g l)) (sym (same a))
    where
      at : map g (insert_behind p x l) ≡ insert_behind p (g x) (map g l)
          → (b : Bool)
          → map g (cond b (a ∷ insert_behind p x l) (x ∷ a ∷ l)) ≡ cond b (g a ∷ insert_behind p (g x) (map g l)) (g x ∷ g a ∷ map g l)
      at e true = ap (λ (r : List A). g a ∷ r) e
      at e false = refl

  map-drop-first : (l : List A) → map g (drop_first p l) ≡ drop_first p (map g l)
  map-drop-first [] = refl
  map-drop-first (a ∷ l) = at (map-drop-first l) (p a) ∙ ap (λ (b : Bool). cond b (map g l) (g a ∷ drop_first p (map g l))) (sym (same a))
    where
      at : map g (drop_first p l) ≡ drop_first p (map g l) → (b : Bool) → map g (cond b l (a ∷ drop_first p l)) ≡ cond b (map g l) (g a ∷ drop_first p (map g l))
      at e true = refl
      at e false = ap (λ (r : List A). g a ∷ r) e

  map_some : (l : List A) → some p (map g l) ≡ some p l
  map_some [] = refl
  map_some (a ∷ l) = ap (λ (b : Bool). cond b true (some p (map g l))) (same a) ∙ ap (cond (p a) true) (map_some l)

module _ (id : ℕ) (x : Bool) where
  -- ---- the blur of a row, by a fresh detector
  module _ (fresh : EwmaDetector) where
    abbrev with_detector : Entry → EwmaDetector → Bool → Entry
    with_detector row t b = record { id = row.id; signal = row.signal; detector = cond b t fresh }

    abbrev pub blur : Entry → Entry
    blur row = with_detector row row.detector (applies id x row)

    blur_own : (row : Entry) → applies id x row ≡ true → blur row ≡ row
    blur_own row h = ap (with_detector row row.detector) h

    -- a detector that isn't the key's doesn't matter
    blur_other : (row : Entry) (t u : EwmaDetector) → applies id x row ≡ false → with_detector row t (applies id x row) ≡ with_detector row u (applies id x row)
    blur_other row t u h = ap (with_detector row t) h ∙ sym (ap (with_detector row u) h)

    blur_new : (s : ℕ) (d : SignalDefinition) → blur (entry_of fresh s d) ≡ entry_of fresh s d
    blur_new s d = at (applies id x (entry_of fresh s d))
      where
        at : (b : Bool) → with_detector (entry_of fresh s d) fresh b ≡ entry_of fresh s d
        at true = refl
        at false = refl

    blur_twice : (row : Entry) → blur (blur row) ≡ blur row
    blur_twice row = at (applies id x row)
      where
        at : (b : Bool) → with_detector row (cond b row.detector fresh) b ≡ with_detector row row.detector b
        at true = refl
        at false = refl

    -- ---- a frame, row by row
    next_other : (i : ℕ) (f : Bool) → same_key i f id x ≡ false → (s : List ℕ) (n : ℕ) (m : Option ℕ) (row : Entry) → blur (next_of i f s n m row) ≡ blur row
    next_other i f k s n m row = go (applies i f row) refl
      where
        go : (b : Bool) → applies i f row ≡ b → blur (next_of i f s n m row) ≡ blur row
        go true h = blur_other row (next_of i f s n m row).detector row.detector (apart id x i f row k h)
        go false h = ap blur (next_stays i f s n m row h)

    next_own : (s : List ℕ) (n : ℕ) (m : Option ℕ) (row : Entry) → blur (next_of id x s n m row) ≡ blur (next_of id x s n m (blur row))
    next_own s n m row = go (applies id x row) refl
      where
        go : (b : Bool) → applies id x row ≡ b → blur (next_of id x s n m row) ≡ blur (next_of id x s n m (blur row))
        go true h = ap (λ (r : Entry). blur (next_of id x s n m r)) (sym (blur_own row h))
        go false h = blur_other row (next_of id x s n m row).detector (next_of id x s n m (blur row)).detector h

    -- ---- and over the rows
    rows_twice : (l : List Entry) → map blur (map blur l) ≡ map blur l
    rows_twice [] = refl
    rows_twice (row ∷ l) = ap (λ (r : Entry). r ∷ map blur (map blur l)) (blur_twice row) ∙ ap (λ (r : List Entry). blur row ∷ r) (rows_twice l)

    pub rows_other : (i : ℕ) (f : Bool) → same_key i f id x ≡ false → (s : List ℕ) (n : ℕ) (m : Option ℕ) (l : List Entry) → map blur (map (next_of i f s n m) l) ≡ map blur l
    rows_other i f k s n m [] = refl
    rows_other i f k s n m (row ∷ l) =
        ap (λ (r : Entry). r ∷ map blur (map (next_of i f s n m) l)) (next_other i f k s n m row) ∙ ap (λ (r : List Entry). blur row ∷ r) (rows_other i f k s n m l)

    rows_own : (s : List ℕ) (n : ℕ) (m : Option ℕ) (l : List Entry) → map blur (map (next_of id x s n m) l) ≡ map blur (map (next_of id x s n m) (map blur l))
    rows_own s n m [] = refl
    rows_own s n m (row ∷ l) =
        ap (λ (r : Entry). r ∷ map blur (map (next_of id x s n m) l)) (next_own s n m row)
        ∙ ap (λ (r : List Entry). blur (next_of id x s n m (blur row)) ∷ r) (rows_own s n m l)

    pub keep_blur : (l : List Entry) → keep (applies id x) l ≡ keep (applies id x) (map blur l)
    keep_blur [] = refl
    keep_blur (row ∷ l) = go (keep_blur l) (applies id x row) refl
      where
        go : keep (applies id x) l ≡ keep (applies id x) (map blur l)
            → (b : Bool)
            → applies id x row ≡ b
            → cond (applies id x row) (row ∷ keep (applies id x) l) (keep (applies id x) l)
            ≡ cond (applies id x row) (blur row ∷ keep (applies id x) (map blur l)) (keep (applies id x) (map blur l))
        go i true h =
            ap (λ (b : Bool). cond b (row ∷ keep (applies id x) l) (keep (applies id x) l)) h
            ∙ ap (λ (r : List Entry). row ∷ r) i
            ∙ ap (λ (r : Entry). r ∷ keep (applies id x) (map blur l)) (sym (blur_own row h))
            ∙ sym (ap (λ (b : Bool). cond b (blur row ∷ keep (applies id x) (map blur l)) (keep (applies id x) (map blur l))) h)
        go i false h =
            ap (λ (b : Bool). cond b (row ∷ keep (applies id x) l) (keep (applies id x) l)) h
            ∙ i
            ∙ sym (ap (λ (b : Bool). cond b (blur row ∷ keep (applies id x) (map blur l)) (keep (applies id x) (map blur l))) h)

    multiplexor_blur : (s : List ℕ) (n : ℕ) (l : List Entry) → multiplexor_of id x s n (map blur l) ≡ multiplexor_of id x s n l
    multiplexor_blur s n [] = refl
    multiplexor_blur s n (row ∷ l) = ap (cond (selects id x row) (number_of s n row.signal.definition)) (multiplexor_blur s n l)

    pub reports_blur : (s : List ℕ) (n : ℕ) (l : List Entry) → reports id x s n l ≡ reports id x s n (map blur l)
    reports_blur s n l =
        ap (map (report_of s n (multiplexor_of id x s n l))) (keep_blur l)
        ∙ ap (λ (m : Option ℕ). map (report_of s n m) (keep (applies id x) (map blur l))) (sym (multiplexor_blur s n l))

    pub advanced_blur : (s : List ℕ) (n : ℕ) (l : List Entry) → map blur (advanced id x s n l) ≡ map blur (advanced id x s n (map blur l))
    advanced_blur s n l =
        rows_own s n (multiplexor_of id x s n l) l
        ∙ ap (λ (m : Option ℕ). map blur (map (next_of id x s n m) (map blur l))) (sym (multiplexor_blur s n l))

  -- ---- the blur of a table, by its own fresh detector
  abbrev pub blurred : Table → Table
  blurred t = with_rows t (map (blur t.fresh) t.rows)

  abbrev pub blur_told : {A : Type 0} → Told A → Told A
  blur_told (accepted a t) = accepted a (blurred t)
  blur_told (refused k) = refused k

  pub blurred_twice : (t : Table) → blurred (blurred t) ≡ blurred t
  blurred_twice t = ap (with_rows t) (rows_twice t.fresh t.rows)

  -- ---- table calls commute with the blur
  placed_blur : (limit : ℕ) (t : Table) (d : SignalDefinition)
      → insert_behind (below limit) (entry_of t.fresh t.next d) (map (blur t.fresh) t.rows)
      ≡ map (blur t.fresh) (insert_behind (below limit) (entry_of t.fresh t.next d) t.rows)
  placed_blur limit t d =
      ap (λ (r : Entry). insert_behind (below limit) r (map (blur t.fresh) t.rows)) (sym (blur_new t.fresh t.next d))
      ∙ sym (map_insert (blur t.fresh) (below limit) (λ a. refl) (entry_of t.fresh t.next d) t.rows)

  define_blur : (t : Table) (d : SignalDefinition) → define' (blurred t) d ≡ blur_told (define' t d)
  define_blur t d =
      ap (λ (n : ℕ). told_by (ltb n 64) (added (blurred t) d)) (length-map t.rows (blur t.fresh))
      ∙ ap (λ (l : List Entry). told_by (ltb (length t.rows) 64) (with_rows (added t d) l)) (placed_blur d.can_id t d)
      ∙ at (fault d) (ltb (length t.rows) 64) (eqb t.next 65535)
    where
      tests : Result Unit TableError → Bool → Bool → Table → Told ℕ
      tests a b c u = unless a (cond b (cond c (refused ResourceExhausted) (accepted t.next u)) (refused ResourceExhausted))

      told_by : Bool → Table → Told ℕ
      told_by b u = tests (fault d) b (eqb t.next 65535) u

      at : (a : Result Unit TableError) (b c : Bool) → tests a b c (blurred (added t d)) ≡ blur_told (tests a b c (added t d))
      at (Err k) b c = refl
      at (Ok done) false c = refl
      at (Ok done) true true = refl
      at (Ok done) true false = refl

  remove_blur : (t : Table) (s : ℕ) → remove' (blurred t) s ≡ blur_told (remove' t s)
  remove_blur t s =
      ap (λ (b : Bool). cond b (accepted tt (without (blurred t) s)) (refused InvalidInput)) (map_some (blur t.fresh) (has s) (λ a. refl) t.rows)
      ∙ ap (λ (l : List Entry). cond (some (has s) t.rows) (accepted tt (with_rows t l)) (refused InvalidInput)) (sym (map-drop-first (blur t.fresh) (has s) (λ a. refl) t.rows))
      ∙ at (some (has s) t.rows)
    where
      tests : Bool → Table → Told Unit
      tests b u = cond b (accepted tt u) (refused InvalidInput)

      at : (b : Bool) → tests b (blurred (without t s)) ≡ blur_told (tests b (without t s))
      at true = refl
      at false = refl

  append_blur : (l : List SignalDefinition) (t : Table) → appended_all (blurred t) l ≡ blurred (appended_all t l)
  append_blur [] t = refl
  append_blur (d ∷ l) t = ap (λ (r : List Entry). appended_all (with_rows (appended t d) r) l) (placed_blur (d.can_id + 1) t d) ∙ append_blur l (appended t d)

  batch_blur : (t : Table) (ds : List SignalDefinition) (n : ℕ) → batch' (blurred t) ds n ≡ blur_told (batch' t ds n)
  batch_blur t ds n =
      ap (λ (k : ℕ). told_by (leb (k + n) 64) (appended_all (blurred t) (take n ds))) (length-map t.rows (blur t.fresh))
      ∙ ap (told_by (leb (length t.rows + n) 64)) (append_blur (take n ds) t)
      ∙ at (leb (length t.rows + n) 64) (faults (take n ds)) (slots_ok n t.next)
    where
      tests : Bool → Result Unit TableError → Bool → Table → Told Unit
      tests a b c u = cond a (unless b (cond c (accepted tt u) (refused ResourceExhausted))) (refused ResourceExhausted)

      told_by : Bool → Table → Told Unit
      told_by a u = tests a (faults (take n ds)) (slots_ok n t.next) u

      at : (a : Bool) (b : Result Unit TableError) (c : Bool) → tests a b c (blurred (appended_all t (take n ds))) ≡ blur_told (tests a b c (appended_all t (take n ds)))
      at false b c = refl
      at true (Err k) c = refl
      at true (Ok done) true = refl
      at true (Ok done) false = refl

  pub told_blur : (t : Table) (c : TableCall) → told (blurred t) c ≡ blur_told (told t c)
  told_blur t (defines d) = define_blur t d
  told_blur t (batches ds n) = batch_blur t ds n
  told_blur t (removes s) = remove_blur t s
