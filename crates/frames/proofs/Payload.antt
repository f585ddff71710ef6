-- What a frame does hangs on its first bytes alone, as many as count: so the bytes may be cut there.
-- Assumes nothing.
use mathlib.Core.Path.{◌≡◌, refl, sym, ap, ◌∙◌}
use mathlib.Core.Bool.{Bool, cond}
use mathlib.Core.List.{List, map}
use Prim.Native.Nat.{ℕ, ◌/◌, ◌%◌, ◌*◌, ◌+◌, ◌<◌, ◌≤◌, min}
use native.Mathlib.Omega.{arith}
use Rattle.std.proofs.Common.{Option, None}
use lib.ListN.{length, take, get_or, length-take}
use lib.Seq.{get_or-take, take-take}
use Rattle.bits.specs.declared.ByteOrder.{ByteOrder}
use Rattle.bits.specs.Signal.{bit_of, turn, place, raw_of}
use Rattle.bits.specs.Answers.{Answer, read_raw, read_at, place_of}
use Rattle.bits.specs.Answers.Answer.{value, refused}
use Rattle.bits.proofs.Theorems.{raw_lt, raw_bit, raw_only, inside_exactly, told, is_read, refused_by_lem}
use Rattle.conversion.specs.declared.SignalDefinition.{SignalDefinition}
use Rattle.conversion.specs.Extract.{raw_signal, signal_of, value_of}
use Rattle.table.specs.declared.Entry.{Entry}
use Rattle.table.specs.declared.SignalIdsEngine.{SignalIdsEngine}
use Rattle.table.specs.Rows.{keep, first}
use Rattle.table.specs.Table.{live}
use Rattle.frames.specs.Frames.{applies, selects, numbered, multiplexor_of, meets, passed_over, sampled, step_of, step_row, Reported, under_slot, answered, moved, processed}

-- ---- a number that is read in the first n bytes of s is read in t, which has the same there
module _ (s t : List ℕ) (n : ℕ) (alike : take n s ≡ take n t) where
  as_many : min n (length s) ≡ min n (length t)
  as_many = sym (length-take n s) ∙ ap length alike ∙ length-take n t

  same_byte : (j : ℕ) → j < n → get_or s j 0 ≡ get_or t j 0
  same_byte j h = sym (get_or-take n s j 0 h) ∙ ap (λ (l : List ℕ). get_or l j 0) alike ∙ get_or-take n t j 0 h

  same_raw : (o : ByteOrder) (m L : ℕ) → 1 ≤ L → m + L ≤ 8 * n → raw_of s o m L ≡ raw_of t o m L
  same_raw o m L some within =
      raw_only t o m L (raw_of s o m L) (raw_lt s o m L)
      (λ i h. let p = place o m L i in
      raw_bit s o m L i h ∙ ap (λ (y : ℕ). bit_of y (p % 8)) (same_byte (p / 8) (omega (arith, (inside_exactly o m L n some).0 within i h))))

  read_too : (o : ByteOrder) (b L x : ℕ) → read_raw s n o b L ≡ value x → read_raw t n o b L ≡ value x
  read_too o b L x e =
      let w = told s n o b L x e in
      is_read t n o b L w.some w.most (omega (arith, w.within, as_many))
      ∙ ap value (sym (w.is ∙ same_raw o (turn o b) L w.some (omega (arith, w.within))))

module _ (s t : List ℕ) (n : ℕ) (alike : take n s ≡ take n t) where
  -- the bytes s and t are the same up to n: then a signal is the same in both
  same_read : (o : ByteOrder) (b L : ℕ) → read_raw s n o b L ≡ read_raw t n o b L
  same_read o b L = at (read_raw s n o b L) refl (read_raw t n o b L) refl
    where
      at : (p : Answer) → read_raw s n o b L ≡ p → (q : Answer) → read_raw t n o b L ≡ q → p ≡ q
      at (value x) e q f = sym (read_too s t n alike o b L x e) ∙ f
      at (refused k) e (value y) f = sym e ∙ read_too t s n (sym alike) o b L y f
      at (refused k) e (refused j) f = ap refused (refused_by_lem s n o b L k e ∙ sym (refused_by_lem t n o b L j f))

  pub same_number : (d : SignalDefinition) → raw_signal s n d ≡ raw_signal t n d
  unfolding raw_signal
  same_number d = same_read d.byte_order d.start_bit d.bit_length

-- ---- each signal has one number in the first n of the bytes s and in the first k of t: then a frame with either does the same
module _ (s t : List ℕ) (n k : ℕ) (same : (d : SignalDefinition) → raw_signal s n d ≡ raw_signal t k d) where
  same-value : (d : SignalDefinition) → signal_of s n d ≡ signal_of t k d
  unfolding signal_of
  same-value d = ap (value_of d) (same d)

  -- and so is all that a frame with these bytes does
  same_multiplexor : (id : ℕ) (x : Bool) (rows : List Entry) → multiplexor_of id x s n rows ≡ multiplexor_of id x t k rows
  same_multiplexor id x rows = λ i. first (selects id x) (λ row. numbered (same row.signal.definition i)) None rows

  same_step : (m : Option ℕ) (row : Entry) → step_row s n m row ≡ step_row t k m row
  unfolding step_of
  same_step m row = λ i.
      cond (meets row.signal.definition.condition m) (sampled row.detector (same-value row.signal.definition i)) (record { detector = row.detector; finding = passed_over })

  pub same_frame : (e : SignalIdsEngine) (id : ℕ) (x : Bool) → processed e id x s n ≡ processed e id x t k
  same_frame e id x = λ i.
      let m = same_multiplexor id x (live e) i in
      let next : Entry → Entry = λ (row : Entry). record { id = row.id; signal = row.signal; detector = cond (applies id x row) (same_step m row i).detector row.detector } in
      let report : Entry → Reported = λ (row : Entry). under_slot row.signal.slot (same_step m row i).finding in
      record { engine = moved e (map next (live e)); result = answered (map report (keep (applies id x) (live e))) }

-- ---- the bytes that count are cut off, where there are as many
cut_number : (s : List ℕ) (n k : ℕ) → k ≡ min n (length s) → (d : SignalDefinition) → raw_signal (take k s) (length (take k s)) d ≡ raw_signal s n d
unfolding raw_signal
cut_number s n k e d =
    let long : length (take k s) ≡ k = omega (arith, length-take k s) in
    ap (λ (j : ℕ). read_at (take k s) d.byte_order d.bit_length (place_of j d.byte_order d.start_bit d.bit_length)) (omega (arith, long))
    ∙ same_number (take k s) s k (take-take k k s (omega arith)) d
    ∙ ap (λ (j : ℕ). read_at s d.byte_order d.bit_length (place_of j d.byte_order d.start_bit d.bit_length)) (omega arith)

pub cut_frame : (s : List ℕ) (n k : ℕ) → k ≡ min n (length s) → (e : SignalIdsEngine) (id : ℕ) (x : Bool)
    → processed e id x (take k s) (length (take k s)) ≡ processed e id x s n
cut_frame s n k e = same_frame (take k s) s (length (take k s)) n (cut_number s n k e)
