-- Laws over any element type: how many pass a test; what stands before the first that fails it; a list that is moved from the front.
-- Assumes nothing.
use mathlib.Core.Path.{◌≡◌, refl, sym, ap, ◌∙◌}
use mathlib.Core.Bool.{Bool, true, false, cond}
use mathlib.Core.List.{List, [], ◌∷◌, ◌++◌, map, map-append, append-nil}
use Prim.Native.Nat.{ℕ, zero, suc, ◌+◌, ◌≤◌, ◌<◌}
use native.Mathlib.Numerals.{add-one}
use native.Mathlib.Omega.{arith}
use lib.ListN.{length, get_or, take, drop, set, length-append, length-map, take-append-drop, drop_of_length-le}
use lib.Seq.{length-take-le, drop-cons, set_at, get_or-append_seam, append_snoc, take_all}
use Rattle.table.specs.Rows.{keep}
use Rattle.table.proofs.Laws.{take_more}

module _ {ℓ} {A : Type ℓ} (p : A → Bool) where
  -- ---- how many pass a test
  abbrev pub tally : List A → ℕ
  tally l = length (keep p l)

  pub tally_cons : (a : A) (l : List A) → tally (a ∷ l) ≡ cond (p a) (suc (tally l)) (tally l)
  tally_cons a l = at (p a)
    where
      at : (b : Bool) → length (cond b (a ∷ keep p l) (keep p l)) ≡ cond b (suc (tally l)) (tally l)
      at true = refl
      at false = refl

-- ---- a list whose first i elements are moved
module _ {ℓ} {A : Type ℓ} (f : A → A) where
  abbrev pub partly : ℕ → List A → List A
  partly i l = map f (take i l) ++ drop i l

  pub length_partly : (i : ℕ) (l : List A) → length (partly i l) ≡ length l
  length_partly i l = length-append (map f (take i l)) (drop i l) ∙ ap (λ (k : ℕ). k + length (drop i l)) (length-map (take i l) f)
      ∙ sym (length-append (take i l) (drop i l)) ∙ ap length (take-append-drop i l)

  module _ (l : List A) (i : ℕ) (d : A) (h : i < length l) where
    front_length : length (map f (take i l)) ≡ i
    front_length = length-map (take i l) f ∙ length-take-le i l (omega arith)

    on : partly (i + 1) l ≡ map f (take i l) ++ f (get_or l i d) ∷ drop (suc i) l
    on =
        ap (λ (j : List A). map f j ++ drop (i + 1) l) (take_more l i d h)
        ∙ ap (λ (j : List A). j ++ drop (i + 1) l) (map-append f (take i l) (get_or l i d ∷ []))
        ∙ append_snoc (map f (take i l)) (f (get_or l i d)) (drop (i + 1) l)
        ∙ ap (λ (k : ℕ). map f (take i l) ++ f (get_or l i d) ∷ drop k l) (add-one i)

    off : partly i l ≡ map f (take i l) ++ get_or l i d ∷ drop (suc i) l
    off = ap (λ (r : List A). map f (take i l) ++ r) (drop-cons l i d h)

    -- one more, by a store
    pub partly_set : set (partly i l) i (f (get_or l i d)) ≡ partly (i + 1) l
    partly_set =
        ap (λ (r : List A). set r i (f (get_or l i d))) off
        ∙ set_at (map f (take i l)) (get_or l i d) (drop (suc i) l) (f (get_or l i d)) i front_length
        ∙ sym on

    -- one more, that stays
    pub partly_stays : f (get_or l i d) ≡ get_or l i d → partly i l ≡ partly (i + 1) l
    partly_stays e = off ∙ ap (λ (a : A). map f (take i l) ++ a ∷ drop (suc i) l) (sym e) ∙ sym on

    pub partly_get : get_or (partly i l) i d ≡ get_or l i d
    partly_get =
        ap (λ (r : List A). get_or r i d) off
        ∙ ap (λ (k : ℕ). get_or (map f (take i l) ++ get_or l i d ∷ drop (suc i) l) k d) (sym front_length)
        ∙ get_or-append_seam (map f (take i l)) (get_or l i d) (drop (suc i) l) d

  pub partly_end : (i : ℕ) (l : List A) → length l ≤ i → partly i l ≡ map f l
  partly_end i l h =
      ap (λ (r : List A). map f (take i l) ++ r) (drop_of_length-le l {i = i} h) ∙ append-nil (map f (take i l)) ∙ ap (map f) (take_all i l h)

pub map-set {ℓ κ} : {A : Type ℓ} {B : Type κ} (f : A → B) (l : List A) (i : ℕ) (a : A) → map f (set l i a) ≡ set (map f l) i (f a)
map-set f [] i a = refl
map-set f (b ∷ l) zero a = refl
map-set f (b ∷ l) (suc i) a = ap (λ r. f b ∷ r) (map-set f l i a)
