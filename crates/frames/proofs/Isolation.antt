-- The customer's third demand, proved: over a run of compiled calls, frames of other keys change neither what the key's calls answer nor its detectors.
-- Assumes nothing.
use mathlib.Core.Path.{◌≡◌, refl, sym, ap, ◌∙◌, subst}
use mathlib.Core.Bool.{Bool, true, false, cond}
use mathlib.Core.List.{List, [], ◌∷◌}
use Prim.Native.Nat.{ℕ}
use native.Mathlib.Omega.{arith}
use Rattle.std.proofs.Common.{Ok}
use lib.Ieee.{Float}
use lib.ListN.{length, length-map}
use contract.Lifetimes.{Lfts}
use Rattle.table.specs.declared.Defined.{Defined}
use Rattle.table.specs.declared.SignalIdsEngine.{SignalIdsEngine}
use Rattle.table.specs.Rows.{keep}
use Rattle.table.specs.Table.{Table, Told, accepted, refused, table_of, live, with_rows, answer_of, defined}
use Rattle.table.specs.Calls.{told, left}
use Rattle.table.proofs.Regular.{follows}
use Rattle.frames.specs.Frames.{same_key, effective_of, payload_of, applies, multiplexor_of, advanced, Reported, reports, answered}
use Rattle.frames.specs.Isolation.{Call, tabled, count_asked, next_asked, framed, raw_framed, Said, gave, number, saw, said, after, answers, ran, concerns, answers_to, of_key}
use Rattle.frames.proofs.Theorems.{frame_table}
use Rattle.frames.proofs.Rows.{key_is}
use Rattle.frames.proofs.Blur.{blurred, blur_told, blurred_twice, told_blur, rows_other, advanced_blur, reports_blur, keep_blur}
use Rattle.table.proofs.SignalIdsEngine.new.Reads as new
use Rattle.frames.proofs.Compiled.{Run, runs_follow}

module _ (id : ℕ) (x : Bool) where
  abbrev blur_t : Table → Table
  blur_t = blurred id x

  -- ---- what a call says and leaves, over the table that the engine holds
  said_t : Table → Call → Said
  said_t t (tabled c) = gave c (answer_of (told t c))
  said_t t count_asked = number (length t.rows)
  said_t t next_asked = number t.next
  said_t t (framed f) = saw (answered (reports (effective_of f) f.is_extended f.«data» (payload_of f) t.rows))
  said_t t (raw_framed i s n) = saw (answered (reports i false s n t.rows))

  after_t : Table → Call → Table
  after_t t (tabled c) = left t (told t c)
  after_t t count_asked = t
  after_t t next_asked = t
  after_t t (framed f) = with_rows t (advanced (effective_of f) f.is_extended f.«data» (payload_of f) t.rows)
  after_t t (raw_framed i s n) = with_rows t (advanced i false s n t.rows)

  said_table : (e : SignalIdsEngine) (c : Call) → said e c ≡ said_t (table_of e) c
  unfolding said_t
  said_table e (tabled c) = ap (gave c) (at (told (table_of e) c))
    where
      at : {A : Type 0} (r : Told A) → (defined e r).answer ≡ answer_of r
      at (accepted a t) = refl
      at (refused k) = refl
  said_table e count_asked = refl
  said_table e next_asked = refl
  said_table e (framed f) = refl
  said_table e (raw_framed i s n) = refl

  after_table : (e : SignalIdsEngine) (c : Call) → table_of (after e c) ≡ after_t (table_of e) c
  unfolding after_t
  after_table e (tabled c) = follows e (told (table_of e) c)
  after_table e count_asked = refl
  after_table e next_asked = refl
  after_table e (framed f) = frame_table e (effective_of f) f.is_extended f.«data» (payload_of f)
  after_table e (raw_framed i s n) = frame_table e i false s n

  -- ---- a table call
  answer_blur : {A : Type 0} (r : Told A) → answer_of r ≡ answer_of (blur_told id x r)
  answer_blur (accepted a t) = refl
  answer_blur (refused k) = refl

  left_blur : {A : Type 0} (t : Table) (r : Told A) → blur_t (left t r) ≡ left (blur_t t) (blur_told id x r)
  left_blur t (accepted a u) = refl
  left_blur t (refused k) = refl

  -- ---- a frame of the key, and one of another
  at_key : {A : Type 0} (F : ℕ → Bool → A) {i : ℕ} {f : Bool} → (i ≡ id) × (f ≡ x) → F i f ≡ F id x
  at_key F {i} {f} k = ap (λ (a : ℕ). F a f) k.0 ∙ ap (F id) k.1

  module _ (t : Table) (i : ℕ) (f : Bool) (s : List ℕ) (n : ℕ) where
    abbrev frame_leaves : Table → Table
    frame_leaves u = with_rows u (advanced i f s n u.rows)

    own_reports : same_key i f id x ≡ true → reports i f s n t.rows ≡ reports i f s n (blur_t t).rows
    own_reports h =
        let k = key_is i f id x h in
        at_key (λ a g. reports a g s n t.rows) k ∙ reports_blur id x t.fresh s n t.rows ∙ sym (at_key (λ a g. reports a g s n (blur_t t).rows) k)

    own_leaves : same_key i f id x ≡ true → blur_t (frame_leaves t) ≡ blur_t (frame_leaves (blur_t t))
    own_leaves h =
        let k = key_is i f id x h in
        at_key (λ a g. blur_t (with_rows t (advanced a g s n t.rows))) k
        ∙ ap (with_rows t) (advanced_blur id x t.fresh s n t.rows)
        ∙ sym (at_key (λ a g. blur_t (with_rows t (advanced a g s n (blur_t t).rows))) k)

    other_leaves : same_key i f id x ≡ false → blur_t (frame_leaves t) ≡ blur_t t
    other_leaves h = ap (with_rows t) (rows_other id x t.fresh i f h s n (multiplexor_of i f s n t.rows) t.rows)

  -- ---- a call that concerns the key, and one that doesn't
  said_blur : (t : Table) (c : Call) → concerns id x c ≡ true → said_t t c ≡ said_t (blur_t t) c
  unfolding said_t
  said_blur t (tabled c) h = ap (gave c) (answer_blur (told t c) ∙ ap answer_of (sym (told_blur id x t c)))
  said_blur t count_asked h = ap number (sym (length-map t.rows _))
  said_blur t next_asked h = refl
  said_blur t (framed f) h = ap (λ (l : List Reported). saw (answered l)) (own_reports t (effective_of f) f.is_extended f.«data» (payload_of f) h)
  said_blur t (raw_framed i s n) h = ap (λ (l : List Reported). saw (answered l)) (own_reports t i false s n h)

  after_blur : (t : Table) (c : Call) → concerns id x c ≡ true → blur_t (after_t t c) ≡ blur_t (after_t (blur_t t) c)
  unfolding after_t
  after_blur t (tabled c) h =
      sym (blurred_twice id x (left t (told t c))) ∙ ap blur_t (left_blur t (told t c) ∙ ap (left (blur_t t)) (sym (told_blur id x t c)))
  after_blur t count_asked h = sym (blurred_twice id x t)
  after_blur t next_asked h = sym (blurred_twice id x t)
  after_blur t (framed f) h = own_leaves t (effective_of f) f.is_extended f.«data» (payload_of f) h
  after_blur t (raw_framed i s n) h = own_leaves t i false s n h

  gone : (t : Table) (c : Call) → concerns id x c ≡ false → blur_t (after_t t c) ≡ blur_t t
  unfolding after_t
  gone t (tabled c) h = let z : ◌≡◌ {A = ℕ} 0 1 = cc in absurd (omega arith)
  gone t count_asked h = let z : ◌≡◌ {A = ℕ} 0 1 = cc in absurd (omega arith)
  gone t next_asked h = let z : ◌≡◌ {A = ℕ} 0 1 = cc in absurd (omega arith)
  gone t (framed f) h = other_leaves t (effective_of f) f.is_extended f.«data» (payload_of f) h
  gone t (raw_framed i s n) h = other_leaves t i false s n h

  -- ---- engines whose tables have one blur
  Alike : SignalIdsEngine → SignalIdsEngine → Type 0
  Alike e u = blur_t (table_of e) ≡ blur_t (table_of u)

  said_alike : (e u : SignalIdsEngine) (c : Call) → concerns id x c ≡ true → Alike e u → said e c ≡ said u c
  unfolding Alike
  said_alike e u c h k =
      said_table e c
      ∙ said_blur (table_of e) c h
      ∙ ap (λ (t : Table). said_t t c) k
      ∙ sym (said_blur (table_of u) c h)
      ∙ sym (said_table u c)

  after_alike : (e u : SignalIdsEngine) (c : Call) → concerns id x c ≡ true → Alike e u → Alike (after e c) (after u c)
  unfolding Alike
  after_alike e u c h k =
      ap blur_t (after_table e c)
      ∙ after_blur (table_of e) c h
      ∙ ap (λ (t : Table). blur_t (after_t t c)) k
      ∙ sym (after_blur (table_of u) c h)
      ∙ sym (ap blur_t (after_table u c))

  gone_alike : (e u : SignalIdsEngine) (c : Call) → concerns id x c ≡ false → Alike e u → Alike (after e c) u
  unfolding Alike
  gone_alike e u c h k = ap blur_t (after_table e c) ∙ gone (table_of e) c h ∙ k

  -- ---- the whole run: with the calls that don't concern the key, and without
  abbrev kept : List Call → List Call
  kept = keep (concerns id x)

  answers_alike : (cs : List Call) (e u : SignalIdsEngine) → Alike e u → answers_to (concerns id x) cs (answers e cs) ≡ answers u (kept cs)
  answers_alike [] e u k = refl
  answers_alike (c ∷ cs) e u k = go (λ v w j. answers_alike cs v w j) (concerns id x c) refl
    where
      rest : List Said
      rest = answers_to (concerns id x) cs (answers (after e c) cs)

      go : ((v w : SignalIdsEngine) → Alike v w → answers_to (concerns id x) cs (answers v cs) ≡ answers w (kept cs))
          → (b : Bool)
          → concerns id x c ≡ b
          → cond (concerns id x c) (said e c ∷ rest) rest ≡ answers u (cond (concerns id x c) (c ∷ kept cs) (kept cs))
      go r true h =
          ap (λ (b : Bool). cond b (said e c ∷ rest) rest) h
          ∙ ap (λ (a : Said). a ∷ rest) (said_alike e u c h k)
          ∙ ap (λ (l : List Said). said u c ∷ l) (r (after e c) (after u c) (after_alike e u c h k))
          ∙ sym (ap (λ (b : Bool). answers u (cond b (c ∷ kept cs) (kept cs))) h)
      go r false h =
          ap (λ (b : Bool). cond b (said e c ∷ rest) rest) h
          ∙ r (after e c) u (gone_alike e u c h k)
          ∙ sym (ap (λ (b : Bool). answers u (cond b (c ∷ kept cs) (kept cs))) h)

  ran_alike : (cs : List Call) (e u : SignalIdsEngine) → Alike e u → Alike (ran e cs) (ran u (kept cs))
  ran_alike [] e u k = k
  ran_alike (c ∷ cs) e u k = go (λ v w j. ran_alike cs v w j) (concerns id x c) refl
    where
      go : ((v w : SignalIdsEngine) → Alike v w → Alike (ran v cs) (ran w (kept cs)))
          → (b : Bool)
          → concerns id x c ≡ b
          → Alike (ran (after e c) cs) (ran u (cond (concerns id x c) (c ∷ kept cs) (kept cs)))
      go r true h =
          subst (λ (b : Bool). Alike (ran (after e c) cs) (ran u (cond b (c ∷ kept cs) (kept cs)))) (sym h) (r (after e c) (after u c) (after_alike e u c h k))
      go r false h =
          subst (λ (b : Bool). Alike (ran (after e c) cs) (ran u (cond b (c ∷ kept cs) (kept cs)))) (sym h) (r (after e c) u (gone_alike e u c h k))

  of_key_alike : (e u : SignalIdsEngine) → Alike e u → of_key id x e ≡ of_key id x u
  unfolding Alike
  of_key_alike e u k =
      keep_blur id x e.fresh (live e) ∙ ap (λ (t : Table). keep (applies id x) t.rows) k ∙ sym (keep_blur id x u.fresh (live u))

-- ISOLATION. Two runs of compiled calls from one engine, the second without the frames of other keys: the answers to all that concerns the key are the
-- same, and so are, at the end, its definitions with their slots and detectors
pub isolation : (id : ℕ) (x : Bool) {e z z' : SignalIdsEngine} {cs : List Call} {heard heard' : List Said}
    → Run e cs heard z
    → Run e (keep (concerns id x) cs) heard' z'
    → (answers_to (concerns id x) cs heard ≡ heard') × (of_key id x z ≡ of_key id x z')
unfolding Alike
isolation id x {e} {z} {z'} {cs} {heard} {heard'} run run' =
    let a = runs_follow run in
    let b = runs_follow run' in (
      ap (answers_to (concerns id x) cs) a.0 ∙ answers_alike id x cs e e refl ∙ sym b.0,
      ap (of_key id x) a.1 ∙ of_key_alike id x (ran e cs) (ran e (keep (concerns id x) cs)) (ran_alike id x cs e e refl) ∙ sym (ap (of_key id x) b.1),
    )

-- so from every engine that the compiled `new` gives
pub isolation_from_new : (κs : Lfts 0) (alpha threshold : Float) (made : Defined Unit) (out : _)
    → new.Learnt κs (alpha, (threshold, tt)) made out
    → made.answer ≡ Ok tt
    → (id : ℕ) (x : Bool) {z z' : SignalIdsEngine} {cs : List Call} {heard heard' : List Said}
    → Run made.engine cs heard z
    → Run made.engine (keep (concerns id x) cs) heard' z'
    → (answers_to (concerns id x) cs heard ≡ heard') × (of_key id x z ≡ of_key id x z')
isolation_from_new κs alpha threshold made out h k id x run run' = isolation id x run run'
