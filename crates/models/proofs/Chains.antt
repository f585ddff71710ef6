-- Markov models that calls made and nothing else altered. All that is known of a call is its promise (`Learnt`). Assumes nothing.
-- `not_saturated`: fewer than 2^64 - 1 observations do not saturate. `rows_add_up`: without saturation each row of transitions adds up to its row total. `score_between`: scores are between 0 and 1, saturated or not.
use mathlib.Core.Path.{◌≡◌, refl, sym, ap, ap₂, ◌∙◌, subst}
use mathlib.Core.Logic.{◌⊎◌, inl, inr}
use mathlib.Core.Bool.{Bool, true, false, ◌||◌}
use mathlib.Core.List.{List, [], ◌∷◌}
use Prim.Native.Nat.{ℕ, suc, ◌+◌, ◌*◌, ◌/◌, ◌^◌, ◌≤◌, ◌<◌}
use native.Mathlib.Nat.{le_trans, le_of_eq, lt_of_le_of_lt, lt_of_lt_of_le, mod-lt, add_comm, zero-add, suc-mul, mul-le-mul_right, div-eq_of_lt, add-mul-div_right}
use native.Mathlib.Decide.{ℕ_discrete, dec_lt}
use native.Mathlib.Omega.{arith}
use borrow.Author.Tests.{ne_eqb}
use lib.Dec.{lit<}
use lib.ListN.{length, get_or, length-set, length-replicate}
use lib.Seq.{get_or-set_same, get_or-set_other}
use lib.Ieee.{Float}
use contract.Lifetimes.{Lfts}
use denote.MutBor.{MutBor}
use denote.Ref.{Bor}
use Rattle.models.specs.declared.MarkovDetector.{MarkovDetector}
use Rattle.std.specs.Prelude.{Result, Ok}
use Rattle.models.specs.declared.Changed.{Changed}
use Rattle.models.specs.declared.Misfit.{Misfit}
use Rattle.models.specs.Counts.{index_of, one_more, is_full, counted, cleared, sum_from, ratio, IsPart, answer_means}
use Rattle.models.specs.Markov.{states_fit, cell_of, fresh_states, moving, Stated, stated, markov_means, moved, reset_states, score_of}
use Rattle.std.proofs.lemmas.Bool.{or_parts}
use Rattle.models.proofs.Fits.{States, states}
use Rattle.models.proofs.Counting.{sum-set, sum-other, sum-cleared, get_d_cleared, not_full, one_more_mono, one_more_most, stays}
use Rattle.models.proofs.Places.{cell_inside}
use Rattle.models.proofs.Parts.{states_new, states_not, moved_done, moved_refused, states_reset, score_given}
use Rattle.models.proofs.Between.{ratio_between}
use Rattle.models.proofs.Determined.{probability_settled}
use Rattle.models.proofs.MarkovDetector.new.Reads as new
use Rattle.models.proofs.MarkovDetector.observe_transition.Reads as observe-transition
use Rattle.models.proofs.MarkovDetector.score_transition.Reads as score-transition
use Rattle.models.proofs.MarkovDetector.reset.Reads as reset

-- A transition.
pub record Pair : Type 0 where
  pub from : ℕ
  pub to : ℕ

-- Calls made the model m and left these transitions and row totals, each lent what the one before it left; these pairs were observed since it was made or last
-- reset, the last one first. A refused call leaves the model and its counts (Refusals), so it has no place here.
pub data MadeBy : MarkovDetector → List ℕ → List ℕ → List Pair → Type 0 where
  by_new : (κs : Lfts 2) (size : ℕ) (cells rows : MutBor (List ℕ)) (r : Changed MarkovDetector) (s : _) → new.Learnt κs (size, (cells, (rows, tt))) r s → r.answer ≡ Ok tt
      → MadeBy r.model s.1.0.now s.1.1.0.now []
  by_observe : {m : MarkovDetector} {c t : List ℕ} {pairs : List Pair} → MadeBy m c t pairs
      → (κs : Lfts 2) (cells rows : MutBor (List ℕ)) (from to : ℕ) (r : Changed MarkovDetector) (s : _) → cells.now ≡ c → rows.now ≡ t
      → observe-transition.Learnt κs (m, (cells, (rows, (from, (to, tt))))) r s → MadeBy r.model s.1.0.now s.1.1.0.now (record { from = from; to = to } ∷ pairs)
  by_reset : {m : MarkovDetector} {c t : List ℕ} {pairs : List Pair} → MadeBy m c t pairs
      → (κs : Lfts 2) (cells rows : MutBor (List ℕ)) (r : Changed MarkovDetector) (s : _) → cells.now ≡ c → rows.now ≡ t
      → reset.Learnt κs (m, (cells, (rows, tt))) r s → MadeBy r.model s.1.0.now s.1.1.0.now []

-- what holds of every such model
pub record Sound (m : MarkovDetector) (cells rows : List ℕ) (pairs : List Pair) : Type 0 where
  pub fits : states_fit m.size (length cells) (length rows) ≡ true
  pub most : (f : ℕ) → get_or rows f 0 < 2 ^ 64
  pub few : (f : ℕ) → get_or rows f 0 ≤ length pairs
  pub clear : length pairs < 0xFFFF_FFFF_FFFF_FFFF → m.saturated ≡ false
  pub below : (f t : ℕ) → t < m.size → get_or cells (f * m.size + t) 0 ≤ get_or rows f 0
  pub sums : m.saturated ≡ false → (f : ℕ) → sum_from cells (f * m.size) m.size ≡ get_or rows f 0

-- ---- nothing observed

begins : (size : ℕ) (cells rows : List ℕ) → states_fit size (length cells) (length rows) ≡ true → Sound (fresh_states size) (cleared cells) (cleared rows) []
begins size cells rows h =
    record {
      fits = ap₂ (states_fit size) (length-replicate (length cells) 0) (length-replicate (length rows) 0) ∙ h;
      most = λ f. subst (λ (z : ℕ). z < 2 ^ 64) (sym (get_d_cleared (length rows) f)) (lit< tt);
      few = λ f. le_of_eq (get_d_cleared (length rows) f);
      clear = λ _. refl;
      below = λ f t _. le_of_eq (get_d_cleared (length cells) (f * size + t) ∙ sym (get_d_cleared (length rows) f));
      sums = λ _ f. sum-cleared (length cells) (f * size) size ∙ sym (get_d_cleared (length rows) f);
    }

-- ---- one observation

-- the row of a place
row_of : (f t n : ℕ) → t < n → (f * n + t) / n ≡ f
row_of f t n h = ap (λ (z : ℕ). z / n) (add_comm (f * n) t) ∙ add-mul-div_right t f (some t n h) ∙ ap (λ (z : ℕ). z + f) (div-eq_of_lt h) ∙ zero-add f
  where
    some : (t n : ℕ) → t < n → 0 < n
    some t n h = omega arith

-- places of two different rows differ
apart : (f t g u n : ℕ) → t < n → u < n → (f ≡ g → ⊥) → f * n + t ≡ g * n + u → ⊥
apart f t g u n a b ne e = ne (sym (row_of f t n a) ∙ ap (λ (z : ℕ). z / n) e ∙ row_of g u n b)

-- a place of row g is not among those of another row f
outside : (f g u n : ℕ) → u < n → (f ≡ g → ⊥) → (g * n + u < f * n) ⊎ (f * n + n ≤ g * n + u)
outside f g u n b ne = go (dec_lt g f)
  where
    go : Dec (g < f) → (g * n + u < f * n) ⊎ (f * n + n ≤ g * n + u)
    go (yes l) =
        let more : suc g * n ≤ f * n = mul-le-mul_right n l in
        let row : suc g * n ≡ g * n + n = suc-mul g n in
        inl (omega arith)
    go (no l) =
        let up : suc f ≤ g = omega (arith, l, ne) in
        let more : suc f * n ≤ g * n = mul-le-mul_right n up in
        let row : suc f * n ≡ f * n + n = suc-mul f n in
        inr (omega arith)

module _ (m : MarkovDetector) (cells rows : List ℕ) (pairs : List Pair) (from to : ℕ) (s : Sound m cells rows pairs) where
  n : ℕ
  n = m.size

  g : ℕ
  g = index_of m.size from

  u : ℕ
  u = index_of m.size to

  p : ℕ
  p = cell_of m.size from to

  fit : States m.size (length cells) (length rows)
  fit = states m.size (length cells) (length rows) s.fits

  u_in : u < n
  unfolding u n
  u_in = mod-lt to fit.some

  g_in : g < n
  unfolding g n
  g_in = mod-lt from fit.some

  row_in : g < length rows
  unfolding n
  row_in = lt_of_lt_of_le g_in (le_of_eq (sym fit.exact))

  cell_in : p < length cells
  unfolding p g u n
  cell_in = lt_of_lt_of_le (cell_inside g u n g_in u_in) (le_of_eq (sym fit.square))

  cell : ℕ
  cell = get_or cells p 0

  row : ℕ
  row = get_or rows g 0

  cell_below : cell ≤ row
  unfolding cell row p g u n
  cell_below = s.below g u u_in

  now_row : get_or (counted rows g) g 0 ≡ one_more row
  unfolding row
  now_row = get_or-set_same rows g _ 0 row_in

  other_row : (f : ℕ) → (f ≡ g → ⊥) → get_or (counted rows g) f 0 ≡ get_or rows f 0
  other_row f ne = get_or-set_other rows g f _ 0 ne

  still_below : (f t : ℕ) → t < n → Dec (f ≡ g) → Dec (f * n + t ≡ p) → get_or (counted cells p) (f * n + t) 0 ≤ get_or (counted rows g) f 0
  unfolding p g u n cell row
  still_below f t h (yes e) (yes d) =
      le_trans (le_of_eq (ap (λ (k : ℕ). get_or (counted cells p) k 0) d ∙ get_or-set_same cells p _ 0 cell_in))
      (le_trans (one_more_mono cell row cell_below) (le_of_eq (sym now_row ∙ ap (λ (k : ℕ). get_or (counted rows g) k 0) (sym e))))
  still_below f t h (yes e) (no d) =
      le_trans (le_of_eq (get_or-set_other cells p (f * n + t) _ 0 d)) (le_trans (s.below f t h)
      (le_trans (stays (get_or rows f 0) (s.most f)) (le_of_eq (ap (λ (k : ℕ). one_more (get_or rows k 0)) e ∙ sym now_row ∙ ap (λ (k : ℕ). get_or (counted rows g) k 0) (sym e)))))
  still_below f t h (no ne) d =
      le_trans (le_of_eq (get_or-set_other cells p (f * n + t) _ 0 (apart f t g u n h u_in ne))) (le_trans (s.below f t h) (le_of_eq (sym (other_row f ne))))

  most_row : (f : ℕ) → Dec (f ≡ g) → get_or (counted rows g) f 0 < 2 ^ 64
  unfolding row
  most_row f (yes e) = lt_of_le_of_lt (le_of_eq (ap (λ (k : ℕ). get_or (counted rows g) k 0) e ∙ now_row)) (one_more_most row)
  most_row f (no ne) = lt_of_le_of_lt (le_of_eq (other_row f ne)) (s.most f)

  still_adds : m.saturated ≡ false → is_full (one_more cell) ≡ false → is_full (one_more row) ≡ false → (f : ℕ) → Dec (f ≡ g)
      → sum_from (counted cells p) (f * n) n ≡ get_or (counted rows g) f 0
  unfolding p g u n cell row
  still_adds clear a b f (yes e) =
      let was : sum_from cells (f * n) n ≡ row = s.sums clear f ∙ ap (λ (k : ℕ). get_or rows k 0) e in
      let one : one_more cell ≡ cell + 1 = not_full cell a in
      let all : one_more row ≡ row + 1 = not_full row b in
      let base : f * n ≡ g * n = ap (λ (k : ℕ). k * n) e in
      let set : sum_from (counted cells p) (f * n) n + cell ≡ sum_from cells (f * n) n + one_more cell = sum-set cells p (one_more cell) (f * n) n cell_in (starts base) (ends base) in
      step (sum_from cells (f * n) n) (sum_from (counted cells p) (f * n) n) cell row was one all set ∙ sym now_row ∙ ap (λ (k : ℕ). get_or (counted rows g) k 0) (sym e)
    where
      starts : f * n ≡ g * n → f * n ≤ g * n + u
      starts e = omega arith

      ends : f * n ≡ g * n → g * n + u < f * n + n
      ends e = omega (arith, u_in)

      step : (x y c r : ℕ) → x ≡ r → one_more c ≡ c + 1 → one_more r ≡ r + 1 → y + c ≡ x + one_more c → y ≡ one_more r
      step x y c r was one all set = omega arith
  still_adds clear a b f (no ne) = sum-other cells p (one_more cell) (f * n) n (outside f g u n u_in ne) ∙ s.sums clear f ∙ sym (other_row f ne)

  few_rows : (f : ℕ) → Dec (f ≡ g) → get_or (counted rows g) f 0 ≤ suc (length pairs)
  unfolding row
  few_rows f (yes e) = le_trans (le_of_eq (ap (λ (k : ℕ). get_or (counted rows g) k 0) e ∙ now_row)) (more row (length pairs) (s.few g))
    where
      more : (r n : ℕ) → r ≤ n → one_more r ≤ suc n
      more r n h = omega arith
  few_rows f (no ne) = le_trans (le_of_eq (other_row f ne)) (le_trans (s.few f) (less (length pairs)))
    where
      less : (n : ℕ) → n ≤ suc n
      less n = omega arith

  -- a count of no more than n observations is not full after one more, where there are not too many
  far_from_full : (c k : ℕ) → c ≤ k → suc k < 0xFFFF_FFFF_FFFF_FFFF → is_full (one_more c) ≡ false
  far_from_full c k h l = ne_eqb (one_more c) 0xFFFF_FFFF_FFFF_FFFF (λ e. omega arith)

  still_clear : suc (length pairs) < 0xFFFF_FFFF_FFFF_FFFF → (moving m cells rows from to).saturated ≡ false
  unfolding p g u n cell row
  still_clear h =
      ap₂ (λ (x y : Bool). x || y) (s.clear (le_trans (less (length pairs)) h))
      (ap₂ (λ (x y : Bool). x || y) (far_from_full cell (length pairs) (le_trans cell_below (s.few g)) h) (far_from_full row (length pairs) (s.few g) h))
    where
      less : (n : ℕ) → suc n ≤ suc (suc n)
      less n = omega arith

  goes_on : Sound (moving m cells rows from to) (counted cells p) (counted rows g) (record { from = from; to = to } ∷ pairs)
  unfolding p g u n cell row
  goes_on =
      record {
        fits = ap₂ (states_fit m.size) (length-set cells p _) (length-set rows g _) ∙ s.fits;
        most = λ f. most_row f (ℕ_discrete f g);
        few = λ f. few_rows f (ℕ_discrete f g);
        clear = still_clear;
        below = λ f t h. still_below f t h (ℕ_discrete f g) (ℕ_discrete (f * n + t) p);
        sums = λ e f. let (clear, both) = or_parts m.saturated (a || b) e in let (p, q) = or_parts a b both in still_adds clear p q f (ℕ_discrete f g);
      }
    where
      a : Bool
      a = is_full (one_more cell)

      b : Bool
      b = is_full (one_more row)

-- what a call that was promised so leaves
left : (r : Changed MarkovDetector) (c t : List ℕ) (k : ℕ) (m : MarkovDetector) (d u : List ℕ) (pairs : List Pair) → markov_means r c t ≡ stated k m d u → Sound m d u pairs → Sound r.model c t pairs
left r c t k m d u pairs h s = subst (λ (b : Stated). Sound b.model b.cells b.rows pairs) (sym h) s

pub sound : {m : MarkovDetector} {c t : List ℕ} {pairs : List Pair} → MadeBy m c t pairs → Sound m c t pairs
unfolding p g
sound (by_new κs size cells rows r s h d) = go (states_fit size (length cells.now) (length rows.now)) refl
  where
    go : (b : Bool) → states_fit size (length cells.now) (length rows.now) ≡ b → Sound r.model s.1.0.now s.1.1.0.now []
    go true e = left r s.1.0.now s.1.1.0.now 0 (fresh_states size) (cleared cells.now) (cleared rows.now) [] (h ∙ states_new size cells.now rows.now e) (begins size cells.now rows.now e)
    go false e =
        let z : ◌≡◌ {A = ℕ} 0 18 = sym (ap answer_means d) ∙ ap (λ (b : Stated). b.number) (h ∙ states_not size cells.now rows.now e) in
        absurd (omega arith)
sound (by_observe {m} {c} {t} {pairs} made κs cells rows from to r s e f h) =
    let was = sound made in
    left r s.1.0.now s.1.1.0.now 0 (moving m c t from to) (counted c (cell_of m.size from to)) (counted t (index_of m.size from)) (record { from = from; to = to } ∷ pairs)
    (h ∙ ap₂ (λ (x y : List ℕ). moved m x y from to) e f ∙ moved_done m c t from to was.fits) (goes_on m c t pairs from to was)
sound (by_reset {m} {c} {t} {pairs} made κs cells rows r s e f h) =
    let was = sound made in
    left r s.1.0.now s.1.1.0.now 0 (fresh_states m.size) (cleared c) (cleared t) []
    (h ∙ ap₂ (reset_states m) e f ∙ states_reset m c t was.fits) (begins m.size c t was.fits)

-- ---- the theorems

-- its own counts fit a model that calls made, so that no call with them is refused
pub always_fits : {m : MarkovDetector} {c t : List ℕ} {pairs : List Pair} → MadeBy m c t pairs → states_fit m.size (length c) (length t) ≡ true
always_fits made = (sound made).fits

-- fewer than 2^64 - 1 observations do not saturate it
pub not_saturated : {m : MarkovDetector} {c t : List ℕ} {pairs : List Pair} → MadeBy m c t pairs → length pairs < 0xFFFF_FFFF_FFFF_FFFF → m.saturated ≡ false
not_saturated made = (sound made).clear

-- and observations leave a saturated model saturated: only a reset ends that
pub saturated_stays : (κs : Lfts 2) (m : MarkovDetector) (cells rows : MutBor (List ℕ)) (from to : ℕ) (r : Changed MarkovDetector) (s : _) → m.saturated ≡ true
    → observe-transition.Learnt κs (m, (cells, (rows, (from, (to, tt))))) r s → r.model.saturated ≡ true
saturated_stays κs m cells rows from to r s full h = go (states_fit m.size (length cells.now) (length rows.now)) refl
  where
    rest : Bool
    rest = is_full (one_more (get_or cells.now (cell_of m.size from to) 0)) || is_full (one_more (get_or rows.now (index_of m.size from) 0))

    go : (b : Bool) → states_fit m.size (length cells.now) (length rows.now) ≡ b → r.model.saturated ≡ true
    go true e = ap (λ (b : Stated). b.model.saturated) (h ∙ moved_done m cells.now rows.now from to e) ∙ ap (λ (x : Bool). x || rest) full
    go false e = ap (λ (b : Stated). b.model.saturated) (h ∙ moved_refused m cells.now rows.now from to e) ∙ full

-- without saturation each row of transitions adds up to its row total
pub rows_add_up : {m : MarkovDetector} {c t : List ℕ} {pairs : List Pair} → MadeBy m c t pairs → m.saturated ≡ false → (f : ℕ) → sum_from c (f * m.size) m.size ≡ get_or t f 0
rows_add_up made = (sound made).sums

-- scores are between 0 and 1
pub score_between : {m : MarkovDetector} {c t : List ℕ} {pairs : List Pair} → MadeBy m c t pairs
    → (κs : Lfts 2) (cells rows : Bor (List ℕ)) (from to : ℕ) (r : Result Float Misfit) (s : _) → cells.now ≡ c → rows.now ≡ t
    → score-transition.Learnt κs (m, (cells, (rows, (from, (to, tt))))) r s → (x : Float) × (r ≡ Ok x) × IsPart x
score_between {m} {c} {t} made κs cells rows from to r s e f h =
    let is = sound made in
    let fit = states m.size (length c) (length t) is.fits in
    let cell = get_or c (cell_of m.size from to) 0 in
    let row = get_or t (index_of m.size from) 0 in (
      ratio cell row,
      probability_settled r (Ok (ratio cell row)) (h ∙ ap₂ (λ (x y : List ℕ). score_of m x y from to) e f ∙ score_given m c t from to is.fits),
      ratio_between cell row (is.below (index_of m.size from) (index_of m.size to) (mod-lt to fit.some)) (is.most (index_of m.size from)),
    )

-- ---- and such models there are: of every size, over any counts of those numbers, after any transitions

lend : List ℕ → MutBor (List ℕ)
lend l = record { ref_ptr = (0, 0); ghost_name = 0; now = l }

pub there_are : (size : ℕ) (cells rows : List ℕ) → states_fit size (length cells) (length rows) ≡ true → (pairs : List Pair)
    → (m : MarkovDetector) × ((c : List ℕ) × ((t : List ℕ) × (MadeBy m c t pairs × (m.size ≡ size))))
unfolding lend
there_are size cells rows h [] =
    (fresh_states size, (cleared cells, (cleared rows, (by_new ([], ([], tt)) size (lend cells) (lend rows) (record { answer = Ok tt; model = fresh_states size }) (size, (lend (cleared cells), (lend (cleared rows), tt))) (sym (states_new size cells rows h)) refl, refl))))
there_are size cells rows h (e ∷ es) =
    let (m, (c, (t, (made, same)))) = there_are size cells rows h es in
    let d = counted c (cell_of m.size e.from e.to) in
    let u = counted t (index_of m.size e.from) in
    let step : MadeBy (moving m c t e.from e.to) d u (e ∷ es) = by_observe made ([], ([], tt)) (lend c) (lend t) e.from e.to (record { answer = Ok tt; model = moving m c t e.from e.to })
    (m, (lend d, (lend u, (e.from, (e.to, tt))))) refl refl (sym (moved_done m c t e.from e.to (sound made).fits)) in
    (moving m c t e.from e.to, (d, (u, (step, same))))
