-- What document 01, "One frame", says of every frame, as theorems about the definitions that the promises cite.
-- Assumes nothing.
use mathlib.Core.Path.{◌≡◌, refl, sym, ap, ◌∙◌, subst}
use mathlib.Core.Bool.{Bool, true, false, cond}
use mathlib.Core.List.{List, [], ◌∷◌, ◌++◌, map, flat_map}
use Prim.Native.Nat.{ℕ, zero, suc, ◌+◌, ◌^◌, ◌≤◌, ◌<◌, min}
use native.Mathlib.Omega.{arith}
use native.Mathlib.Nat.{lt_of_lt_of_le}
use Rattle.std.proofs.Common.{Option, Some, Ok}
use lib.Pow.{pow_mono}
use lib.ListN.{length, take, drop, length-append, length-take, take-append-drop}
use Rattle.bits.specs.Answers.{Answer}
use Rattle.bits.specs.Answers.Answer.{value, refused}
use Rattle.bits.proofs.Theorems.{told}
use Rattle.conversion.specs.declared.SignalDefinition.{SignalDefinition}
use Rattle.conversion.specs.Extract.{measured, raw_signal, signal_of}
use Rattle.detector.specs.declared.EwmaDetector.{EwmaDetector}
use Rattle.detector.specs.Ewma.{updated}
use Rattle.table.specs.declared.Signal.{Signal}
use Rattle.table.specs.declared.Entry.{Entry}
use Rattle.table.specs.declared.SignalIdsEngine.{SignalIdsEngine}
use Rattle.table.specs.Rows.{keep, every}
use Rattle.table.specs.Table.{joined, rows_of, live, detector_of, table_of, with_rows, fault}
use Rattle.table.specs.Regular.{Proper, Regular}
use Rattle.detector.proofs.Told.{chosen, other}
use Rattle.table.proofs.Laws.{map-take}
use Rattle.table.proofs.Columns.{Sound, detectors_are}
use Rattle.table.proofs.Theorems.{passing}
use Rattle.frames.specs.Frames.{applies, numbered, number_of, multiplexor_of, meets, Stepped, sampled, step_row, next_of, advanced, Reported, report_of, reports, Finding, passed_over, no_value, first_sample, warming_up, scored, is_flagged, flags, anomaly, flagged, answered, moved, processed}
use Rattle.frames.proofs.Steps.{step_sampled}
use Rattle.frames.proofs.Lists.{tally_cons}
use Rattle.frames.proofs.Rows.{key_is, next_stays}
use Rattle.frames.proofs.Moves.{with_detectors}

-- ---- the count of anomalies is that of flagged outcomes, at most eight
one_flag : (r : Reported) → length (flagged r) ≡ cond (is_flagged r.finding) 1 0
one_flag r = at r.finding
  where
    whether : (v z : _) (flag : Bool) → length (anomaly r.slot (scored v z flag)) ≡ cond flag 1 0
    whether v z true = refl
    whether v z false = refl

    at : (f : Finding) → length (anomaly r.slot f) ≡ cond (is_flagged f) 1 0
    at passed_over = refl
    at (no_value r) = refl
    at (first_sample v) = refl
    at (warming_up v) = refl
    at (scored v z flag) = whether v z flag

all_flags : (l : List Reported) → length (flat_map flagged l) ≡ flags l
unfolding flat_map
all_flags [] = refl
all_flags (r ∷ l) =
    length-append (flagged r) (flat_map flagged l)
    ∙ ap (λ (k : ℕ). k + length (flat_map flagged l)) (one_flag r)
    ∙ ap (λ (k : ℕ). cond (is_flagged r.finding) 1 0 + k) (all_flags l)
    ∙ at (is_flagged r.finding)
    ∙ sym (tally_cons (λ q. is_flagged q.finding) r l)
  where
    at : (b : Bool) → cond b 1 0 + flags l ≡ cond b (suc (flags l)) (flags l)
    at true = omega arith
    at false = omega arith

pub anomaly_count_lem : (e : SignalIdsEngine) (id : ℕ) (x : Bool) (s : List ℕ) (n : ℕ) → (processed e id x s n).result.anomaly_count ≡ min (flags (reports id x s n (live e))) 8
anomaly_count_lem e id x s n =
    let l : List Reported = reports id x s n (live e) in
    length-take 8 (flat_map flagged l) ∙ ap (λ (k : ℕ). min 8 k) (all_flags l) ∙ (omega arith)

pub few_anomalies : (e : SignalIdsEngine) (id : ℕ) (x : Bool) (s : List ℕ) (n : ℕ) → (processed e id x s n).result.anomaly_count ≤ 8
few_anomalies e id x s n = omega (arith, anomaly_count_lem e id x s n)

-- ---- every row that applies has one report, under its slot, in table order
abbrev pub slot_of : Entry → ℕ
slot_of row = row.signal.slot

slots_same : (s : List ℕ) (n : ℕ) (m : Option ℕ) (l : List Entry) → map (λ (r : Reported). r.slot) (map (report_of s n m) l) ≡ map slot_of l
slots_same s n m [] = refl
slots_same s n m (row ∷ l) = ap (λ (r : List ℕ). slot_of row ∷ r) (slots_same s n m l)

pub one_report_each : (id : ℕ) (x : Bool) (s : List ℕ) (n : ℕ) (rows : List Entry) → map (λ (r : Reported). r.slot) (reports id x s n rows) ≡ map slot_of (keep (applies id x) rows)
one_report_each id x s n rows = slots_same s n (multiplexor_of id x s n rows) (keep (applies id x) rows)

-- ---- a row that applies takes its sample, whatever is listed: a ninth anomaly's detector moves as the first one's
pub applied_moves : (id : ℕ) (x : Bool) (s : List ℕ) (n : ℕ) (m : Option ℕ) (row : Entry) (v : _)
    → applies id x row ≡ true
    → meets row.signal.definition.condition m ≡ true
    → signal_of s n row.signal.definition ≡ measured v
    → (next_of id x s n m row).detector ≡ (updated row.detector v).detector
applied_moves id x s n m row v a b h =
    chosen (step_row s n m row).detector row.detector a
    ∙ ap (λ (t : Stepped). t.detector) (step_sampled s n m row.signal.definition row.detector b ∙ ap (sampled row.detector) h)

-- ---- frames change detectors and nothing else
module _ (f : Entry → Entry) (keeps : (row : Entry) → ◌≡◌ {A = Entry} (record { id = row.id; signal = row.signal; detector = (f row).detector }) (f row)) where
  -- moved detectors, put back into their column and read again with the two others
  rejoined : (n : ℕ) (is : List ℕ) (ss : List Signal) (ts : List EwmaDetector)
      → take n (joined is ss (map detector_of (map f (take n (joined is ss ts))) ++ drop n ts)) ≡ map f (take n (joined is ss ts))
  rejoined zero is ss ts = refl
  rejoined (suc n) [] ss ts = refl
  rejoined (suc n) (i ∷ is) [] ts = refl
  rejoined (suc n) (i ∷ is) (s ∷ ss) [] = refl
  rejoined (suc n) (i ∷ is) (s ∷ ss) (t ∷ ts) =
      let row : Entry = record { id = i; signal = s; detector = t } in
      ap (λ (r : Entry). r ∷ take n (joined is ss (map detector_of (map f (take n (joined is ss ts))) ++ drop n ts))) (keeps row)
      ∙ ap (λ (r : List Entry). f row ∷ r) (rejoined n is ss ts)

module _ (e : SignalIdsEngine) (id : ℕ) (x : Bool) (s : List ℕ) (n : ℕ) where
  -- the table that a frame leaves, on any engine value
  pub frame_table : table_of (processed e id x s n).engine ≡ with_rows (table_of e) (advanced id x s n (live e))
  frame_table =
      ap (with_rows (table_of e))
      (rejoined (next_of id x s n (multiplexor_of id x s n (live e))) (λ row. refl) e.count e.ids e.signals e.detectors)

  -- the columns of identifiers and signals, the count, the next slot and the settings
  pub only-detectors :
      ((processed e id x s n).engine.ids ≡ e.ids)
      × ((processed e id x s n).engine.signals ≡ e.signals)
      × ((processed e id x s n).engine.count ≡ e.count)
      × ((processed e id x s n).engine.next_slot ≡ e.next_slot)
      × ((processed e id x s n).engine.fresh ≡ e.fresh)
  only-detectors = (refl, refl, refl, refl, refl)

-- ---- where no row applies the engine comes back as it was, with no report
none_move : (id : ℕ) (x : Bool) (s : List ℕ) (n : ℕ) (m : Option ℕ) (l : List Entry) → keep (applies id x) l ≡ [] → map (next_of id x s n m) l ≡ l
none_move id x s n m [] h = refl
none_move id x s n m (row ∷ l) h = go (λ k. none_move id x s n m l k) (applies id x row) refl h
  where
    go : (keep (applies id x) l ≡ [] → map (next_of id x s n m) l ≡ l)
        → (b : Bool)
        → applies id x row ≡ b
        → cond b (row ∷ keep (applies id x) l) (keep (applies id x) l) ≡ []
        → map (next_of id x s n m) (row ∷ l) ≡ row ∷ l
    go rest true e k = absurd (omega (arith, ap length k))
    go rest false e k = ap (λ (r : Entry). r ∷ map (next_of id x s n m) l) (next_stays id x s n m row e) ∙ ap (λ (r : List Entry). row ∷ r) (rest k)

-- the live rows' own detectors, put back
pub moved-live : (e : SignalIdsEngine) → Sound e → moved e (live e) ≡ e
moved-live e good =
    ap (with_detectors e)
    (ap (λ (l : List EwmaDetector). l ++ drop e.count e.detectors) (map-take detector_of e.count (rows_of e) ∙ ap (take e.count) (detectors_are e good))
    ∙ take-append-drop e.count e.detectors)

pub nothing_applies : (e : SignalIdsEngine) → Sound e → (id : ℕ) (x : Bool) (s : List ℕ) (n : ℕ)
    → keep (applies id x) (live e) ≡ []
    → processed e id x s n ≡ record { engine = e; result = answered [] }
nothing_applies e good id x s n h =
    let m : Option ℕ = multiplexor_of id x s n (live e) in
    ap (λ (l : List Entry). (record { engine = moved e l; result = answered (reports id x s n (live e)) })) (none_move id x s n m (live e) h)
    ∙ ap (λ (l : List Entry). (record { engine = moved e (live e); result = answered (map (report_of s n m) l) })) h
    ∙ ap (λ (q : SignalIdsEngine). (record { engine = q; result = answered [] })) (moved-live e good)

-- ---- the multiplexor's number fits 16 bits in every table that calls make
number_below : (s : List ℕ) (n : ℕ) (d : SignalDefinition) (k : ℕ) → fault d ≡ Ok tt → d.is_multiplexor ≡ true → number_of s n d ≡ Some k → k < 65536
unfolding raw_signal
number_below s n d k h f = go (raw_signal s n d) refl
  where
    go : (a : Answer) → raw_signal s n d ≡ a → numbered a ≡ Some k → k < 65536
    go (value v) e q =
        let same : v ≡ k = cc in
        let less = (told s n d.byte_order d.start_bit d.bit_length v e).less in
        lt_of_lt_of_le (subst (λ (j : ℕ). j < 2 ^ d.bit_length) same less) (pow_mono {j = 16} ((passing d h).multiplexor f))
    go (refused r) e q = let z : ◌≡◌ {A = ℕ} 0 1 = cc in absurd (omega arith)

numbers_fit : (id : ℕ) (x : Bool) (s : List ℕ) (n next : ℕ) (l : List Entry) → every (Proper next) l → (k : ℕ) → multiplexor_of id x s n l ≡ Some k → k < 65536
numbers_fit id x s n next [] p k h = let z : ◌≡◌ {A = ℕ} 0 1 = cc in absurd (omega arith)
numbers_fit id x s n next (row ∷ l) p k h =
    go (numbers_fit id x s n next l p.1 k) (applies id x row) row.signal.definition.is_multiplexor refl h
  where
    go : (multiplexor_of id x s n l ≡ Some k → k < 65536)
        → (a b : Bool)
        → row.signal.definition.is_multiplexor ≡ b
        → cond (cond a b false) (number_of s n row.signal.definition) (multiplexor_of id x s n l) ≡ Some k
        → k < 65536
    go rest true true f q = number_below s n row.signal.definition k p.0.passes f q
    go rest true false f q = rest q
    go rest false b f q = rest q

pub number_fits : (e : SignalIdsEngine) → Regular (table_of e) → (id : ℕ) (x : Bool) (s : List ℕ) (n k : ℕ) → multiplexor_of id x s n (live e) ≡ Some k → k < 65536
number_fits e g id x s n k h = numbers_fit id x s n e.next_slot (live e) g.proper k h

-- ---- a raw identifier above 0x7FF has no report in any table that calls make
none_above : (id : ℕ) → 0x7FF < id → (next : ℕ) (l : List Entry) → every (Proper next) l → keep (applies id false) l ≡ []
none_above id h next [] p = refl
none_above id h next (row ∷ l) p = go (none_above id h next l p.1) (applies id false row) refl
  where
    go : keep (applies id false) l ≡ [] → (b : Bool) → applies id false row ≡ b → cond (applies id false row) (row ∷ keep (applies id false) l) (keep (applies id false) l) ≡ []
    go rest true e =
        let k = key_is row.id row.signal.definition.is_extended id false e in
        absurd (omega (arith, k.0, p.0.id_is, (passing row.signal.definition p.0.passes).standard k.1))
    go rest false e = other _ _ e ∙ rest

pub raw_above : (e : SignalIdsEngine) → Regular (table_of e) → (id : ℕ) → 0x7FF < id → (s : List ℕ) (n : ℕ) → reports id false s n (live e) ≡ []
raw_above e g id h s n = ap (map (report_of s n (multiplexor_of id false s n (live e)))) (none_above id h e.next_slot (live e) g.proper)
