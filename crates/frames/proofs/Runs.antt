-- What holds after any run of compiled calls from `new`, frames among them: the table is regular, slots have risen and none was given twice.
-- Assumes nothing.
use mathlib.Core.Path.{◌≡◌, refl, sym, ap, ◌∙◌, subst}
use mathlib.Core.Bool.{Bool, false}
use mathlib.Core.List.{List, [], ◌∷◌, ◌++◌}
use Prim.Native.Nat.{ℕ}
use Rattle.std.proofs.Common.{Ok}
use lib.Ieee.{Float}
use contract.Lifetimes.{Lfts}
use Rattle.conversion.specs.declared.SignalDefinition.{SignalDefinition}
use Rattle.detector.specs.Answers.{Configured, configured, unconfigured}
use Rattle.detector.specs.Ewma.{made_of, idle}
use Rattle.table.specs.declared.Signal.{Signal}
use Rattle.table.specs.declared.Defined.{Defined}
use Rattle.table.specs.declared.SignalIdsEngine.{SignalIdsEngine}
use Rattle.table.specs.Table.{Table, Told, accepted, refused, table_of, empty_table, live, defined, define', newly}
use Rattle.table.specs.Calls.{defines, Event, calls, moves, told}
use Rattle.table.specs.Calls as table
use Rattle.table.specs.Regular.{Regular, Rising}
use Rattle.table.proofs.Columns.{table_engine}
use Rattle.table.proofs.Accepted.{DefineAccepted, define_accepted}
use Rattle.table.proofs.Regular.{follows, made_regular}
use Rattle.table.proofs.Slots.{Known, slots_rise, live-given}
use Rattle.table.proofs.SignalIdsEngine.new.Reads as new
use Rattle.frames.specs.Frames.{effective_of, payload_of, multiplexor_of, next_of}
use Rattle.frames.specs.Isolation.{Call, tabled, count_asked, next_asked, framed, raw_framed, Said, gave_slot, said, after, ran, gives, granted}
use Rattle.frames.proofs.Theorems.{frame_table}
use Rattle.frames.proofs.Compiled.{Run, runs_follow}

-- ---- what a call is to the table: a call on it, a move of its detectors, or nothing
abbrev moves_at : SignalIdsEngine → ℕ → Bool → List ℕ → ℕ → Event
moves_at e id x s n = moves (λ row. (next_of id x s n (multiplexor_of id x s n (live e)) row).detector)

events_at : SignalIdsEngine → Call → List Event
events_at e (tabled c) = calls c ∷ []
events_at e count_asked = []
events_at e next_asked = []
events_at e (framed f) = moves_at e (effective_of f) f.is_extended f.«data» (payload_of f) ∷ []
events_at e (raw_framed id s n) = moves_at e id false s n ∷ []

events : SignalIdsEngine → List Call → List Event
events e [] = []
events e (c ∷ cs) = events_at e c ++ events (after e c) cs

after_event : (e : SignalIdsEngine) (c : Call) → table_of (after e c) ≡ table.ran (table_of e) (events_at e c)
unfolding events_at
after_event e (tabled c) = follows e (told (table_of e) c)
after_event e count_asked = refl
after_event e next_asked = refl
after_event e (framed f) = frame_table e (effective_of f) f.is_extended f.«data» (payload_of f)
after_event e (raw_framed id s n) = frame_table e id false s n

given_event : (e : SignalIdsEngine) (c : Call) → (vs : List Event) → table.granted (table_of e) (events_at e c ++ vs) ≡ gives e c ++ table.granted (table.ran (table_of e) (events_at e c)) vs
unfolding events_at
given_event e (tabled c) vs = refl
given_event e count_asked vs = refl
given_event e next_asked vs = refl
given_event e (framed f) vs = refl
given_event e (raw_framed id s n) vs = refl

ran_append : (t : Table) (vs ws : List Event) → table.ran t (vs ++ ws) ≡ table.ran (table.ran t vs) ws
ran_append t [] ws = refl
ran_append t (v ∷ vs) ws = ran_append (table.happened t v) vs ws

ran_events : (cs : List Call) (e : SignalIdsEngine) → table_of (ran e cs) ≡ table.ran (table_of e) (events e cs)
unfolding events
ran_events [] e = refl
ran_events (c ∷ cs) e =
    ran_events cs (after e c)
    ∙ ap (λ (t : Table). table.ran t (events (after e c) cs)) (after_event e c)
    ∙ sym (ran_append (table_of e) (events_at e c) (events (after e c) cs))

granted_events : (cs : List Call) (e : SignalIdsEngine) → granted e cs ≡ table.granted (table_of e) (events e cs)
unfolding events
granted_events [] e = refl
granted_events (c ∷ cs) e =
    ap (λ (l : List Signal). gives e c ++ l) (granted_events cs (after e c) ∙ ap (λ (t : Table). table.granted t (events (after e c) cs)) (after_event e c))
    ∙ sym (given_event e c (events (after e c) cs))

-- ---- from `new`: an empty table, also beside a refusal
new_empty : (m : Configured) → table_of (newly m).engine ≡ empty_table (newly m).engine.fresh
new_empty (configured f) = table_engine (empty_table f)
new_empty (unconfigured k) = table_engine (empty_table idle)

module _ (κs : Lfts 0) (alpha threshold : Float) (made : Defined Unit) (out : _) (promised : new.Learnt κs (alpha, (threshold, tt)) made out) where
  empty : table_of made.engine ≡ empty_table made.engine.fresh
  empty = subst (λ (d : Defined Unit). table_of d.engine ≡ empty_table d.engine.fresh) (sym promised) (new_empty (made_of alpha threshold 10 5))

  module _ {cs : List Call} {heard : List Said} {z : SignalIdsEngine} (run : Run made.engine cs heard z) where
    vs : List Event
    vs = events made.engine cs

    left : table_of z ≡ table.ran (empty_table made.engine.fresh) vs
    unfolding vs
    left = ap table_of (runs_follow run).1 ∙ ran_events cs made.engine ∙ ap (λ (t : Table). table.ran t vs) empty

    slots : granted made.engine cs ≡ table.granted (empty_table made.engine.fresh) vs
    unfolding vs
    slots = granted_events cs made.engine ∙ ap (λ (t : Table). table.granted t vs) empty

    -- sorted by identifier, no slot twice, each row's identifier its definition's, each definition sound
    pub run_regular : Regular (table_of z)
    run_regular = subst Regular (sym left) (made_regular made.engine.fresh vs)

    -- slots rise, so that none is given twice
    pub run_slots_rise : Rising (granted made.engine cs)
    run_slots_rise = subst Rising (sym slots) (slots_rise made.engine.fresh vs)

    -- each live row has the slot and the definition that a call was given
    pub run-live-given : Known (granted made.engine cs) (live z)
    run-live-given =
        subst (λ (l : List Signal). Known l (live z)) (sym slots)
        (subst (λ (t : Table). Known (table.granted (empty_table made.engine.fresh) vs) t.rows) (sym left) (live-given made.engine.fresh vs))

-- ---- the slot that define answers is the one that it gives
pub define_gives : (e : SignalIdsEngine) (d : SignalDefinition) (k : ℕ) → said e (tabled (defines d)) ≡ gave_slot (Ok k) → gives e (tabled (defines d)) ≡ record { slot = k; definition = d } ∷ []
define_gives e d k = go (define' (table_of e) d) refl
  where
    go : (x : Told ℕ) → define' (table_of e) d ≡ x → gave_slot (defined e x).answer ≡ gave_slot (Ok k) → table.given e.next_slot (d ∷ []) x ≡ record { slot = k; definition = d } ∷ []
    go (refused j) h a = cc
    go (accepted b u) h a =
        let f : DefineAccepted (table_of e) d b u = define_accepted (table_of e) d b u h in
        let i : e.next_slot ≡ k = sym f.answer ∙ (let j : b ≡ k = cc in j) in
        ap (λ (n : ℕ). record { slot = n; definition = d } ∷ []) i
