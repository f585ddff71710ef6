-- What a list's rows have, each or pair by pair, after an insertion, a removal or a move.
-- Assumes nothing.
use mathlib.Core.Path.{◌≡◌, refl}
use mathlib.Core.Bool.{Bool, true, false, cond}
use mathlib.Core.List.{List, [], ◌∷◌, ◌++◌, map}
use Prim.Native.Nat.{ℕ, ◌+◌, ◌≤◌, ◌<◌}
use native.Mathlib.Omega.{arith}
use lib.Dec.{ltb}
use borrow.Author.Tests.{ltb-true, ltb-false}
use Rattle.table.specs.Rows.{insert_behind, drop_first, every, pairs}

module _ {A : Type 0} where
  pub every_weaken : (P Q : A → Type 0) → ((a : A) → P a → Q a) → (l : List A) → every P l → every Q l
  every_weaken P Q h [] e = tt
  every_weaken P Q h (a ∷ l) e = (h a e.0, every_weaken P Q h l e.1)

  pub every_append : (P : A → Type 0) (l m : List A) → every P l → every P m → every P (l ++ m)
  every_append P [] m e f = f
  every_append P (a ∷ l) m e f = (e.0, every_append P l m e.1 f)

  pub pairs_append : (R : A → A → Type 0) (l m : List A) → pairs R l → every (λ a. every (R a) m) l → pairs R m → pairs R (l ++ m)
  pairs_append R [] m p c q = q
  pairs_append R (a ∷ l) m p c q = (every_append (R a) l m p.0 c.0, pairs_append R l m p.1 c.1 q)

  pub every_insert : (P : A → Type 0) (p : A → Bool) (x : A) (l : List A) → P x → every P l → every P (insert_behind p x l)
  every_insert P p x [] h e = (h, tt)
  every_insert P p x (y ∷ l) h e = at (every_insert P p x l h e.1) (p y)
    where
      at : every P (insert_behind p x l) → (b : Bool) → every P (cond b (y ∷ insert_behind p x l) (x ∷ y ∷ l))
      at i true = (e.0, i)
      at i false = (h, e)

  -- one that stands in the relation to all, either way round, may go anywhere
  pub pairs_insert : (R : A → A → Type 0) (p : A → Bool) (x : A) (l : List A) → every (λ a. R a x × R x a) l → pairs R l → pairs R (insert_behind p x l)
  pairs_insert R p x [] h q = (tt, tt)
  pairs_insert R p x (y ∷ l) h q = at (pairs_insert R p x l h.1 q.1) (p y)
    where
      at : pairs R (insert_behind p x l) → (b : Bool) → pairs R (cond b (y ∷ insert_behind p x l) (x ∷ y ∷ l))
      at i true = (every_insert (R y) p x l h.0.0 q.0, i)
      at i false = (every_weaken (λ a. R a x × R x a) (R x) (λ a k. k.1) (y ∷ l) h, q)

  -- x goes behind those whose number is below q, which is its own number or the next
  pub sorted_insert : (f : A → ℕ) (q : ℕ) (x : A)
      → f x ≤ q
      → q ≤ f x + 1
      → (l : List A)
      → pairs (λ a b. f a ≤ f b) l
      → pairs (λ a b. f a ≤ f b) (insert_behind (λ y. ltb (f y) q) x l)
  sorted_insert f q x h k [] s = (tt, tt)
  sorted_insert f q x h k (y ∷ l) s = at (sorted_insert f q x h k l s.1) (ltb (f y) q) refl
    where
      at : pairs (λ a b. f a ≤ f b) (insert_behind (λ z. ltb (f z) q) x l)
          → (b : Bool)
          → ltb (f y) q ≡ b
          → pairs (λ a b. f a ≤ f b) (cond b (y ∷ insert_behind (λ z. ltb (f z) q) x l) (x ∷ y ∷ l))
      at i true e =
          let lower : f y < q = ltb-true (f y) q e in
          (every_insert (λ a. f y ≤ f a) (λ z. ltb (f z) q) x l (omega arith) s.0, i)
      at i false e =
          let higher : q ≤ f y = ltb-false (f y) q e in
          let le : f x ≤ f y = omega arith in
          ((le, every_weaken (λ a. f y ≤ f a) (λ a. f x ≤ f a) (λ a g. omega arith) l s.0), s)

  pub every_drop : (P : A → Type 0) (p : A → Bool) (l : List A) → every P l → every P (drop_first p l)
  every_drop P p [] e = tt
  every_drop P p (y ∷ l) e = at (every_drop P p l e.1) (p y)
    where
      at : every P (drop_first p l) → (b : Bool) → every P (cond b l (y ∷ drop_first p l))
      at i true = e.1
      at i false = (e.0, i)

  pub pairs_drop : (R : A → A → Type 0) (p : A → Bool) (l : List A) → pairs R l → pairs R (drop_first p l)
  pairs_drop R p [] q = tt
  pairs_drop R p (y ∷ l) q = at (pairs_drop R p l q.1) (p y)
    where
      at : pairs R (drop_first p l) → (b : Bool) → pairs R (cond b l (y ∷ drop_first p l))
      at i true = q.1
      at i false = (every_drop (R y) p l q.0, i)

  pub every_move : (P : A → Type 0) (g : A → A) → ((a : A) → P a → P (g a)) → (l : List A) → every P l → every P (map g l)
  every_move P g h [] e = tt
  every_move P g h (a ∷ l) e = (h a e.0, every_move P g h l e.1)

  pub pairs_move : (R : A → A → Type 0) (g : A → A) → ((a b : A) → R a b → R (g a) (g b)) → (l : List A) → pairs R l → pairs R (map g l)
  pairs_move R g h [] q = tt
  pairs_move R g h (a ∷ l) q = (moved l q.0, pairs_move R g h l q.1)
    where
      moved : (m : List A) → every (R a) m → every (R (g a)) (map g m)
      moved [] e = tt
      moved (b ∷ m) e = (h a b e.0, moved m e.1)
