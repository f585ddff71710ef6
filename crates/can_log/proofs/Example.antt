-- Document 01's log and the shortest inputs: what `output` gives is computed. Assumes nothing.
use mathlib.Core.Path.{◌≡◌, refl}
use mathlib.Core.List.{List, [], ◌∷◌, ◌++◌, flat_map}
use Prim.Native.Nat.{ℕ}
use lib.Ieee.{of_bits, to_bits, of_int, add, sub, mul, div, neg, lt, le, eq}
use Rattle.bits.specs.Signal.{value}
use Rattle.conversion.specs.Extract.{raw_signal, signal_of}
use Rattle.detector.specs.Ewma.{allowed, made_of, updated, folded, held, settled, score_of, score_at, floored_variance, floor_of, sqrt_approx}
use Rattle.table.specs.Rows.{pad}
use Rattle.table.specs.Table.{blank_signal, length_ok, scale_ok, id_ok, mux_ok, sign_ok}
use Rattle.frames.specs.Frames as frames
use Rattle.table.specs.declared.SignalIdsEngine.{SignalIdsEngine}
use native.Mathlib.Omega.{arith}
use Rattle.can_log.proofs.Seams.{last_count}
use Rattle.can_log.specs.Records.{item_of, mark_of, settings_of, define_of, frame_of, bad_flags, order_of, condition_of}
use Rattle.can_log.specs.Lines.{ascii, dec, hex8}
use Rattle.can_log.specs.Output.{created_by, defined_by, processed_by, start_of, run, step_of, output, output_from}

abbrev pub settings : List ℕ
settings = 0xA5 ∷ 0x50 ∷ 0 ∷ 0 ∷ 0 ∷ 0x3F ∷ 0 ∷ 0 ∷ 0x40 ∷ 0x40 ∷ []

abbrev pub definition : List ℕ
definition =
    0xA5 ∷ 0x44 ∷ 0 ∷ 1 ∷ 0 ∷ 0 ∷ 0 ∷ 0 ∷ 0 ∷ 8 ∷ 0 ∷ 0 ∷ 0x80 ∷ 0x3F ∷ 0 ∷ 0 ∷ 0 ∷ 0 ∷ 7 ∷ 0 ∷ 0 ∷ 0 ∷ 0 ∷ 0 ∷ []

abbrev pub frame : ℕ → List ℕ
frame b = 0xA5 ∷ 0x46 ∷ 0 ∷ 1 ∷ 0 ∷ 1 ∷ 0 ∷ 0 ∷ b ∷ 0 ∷ 0 ∷ 0 ∷ 0 ∷ 0 ∷ 0 ∷ 0 ∷ []

pub empty : output [] ≡ ascii "end 0 0\n"
unfolding run step_of item_of start_of dec
empty = refl

pub one_byte : output (0xA5 ∷ []) ≡ ascii "end 0 11\n"
unfolding run step_of item_of start_of dec
one_byte = refl

pub unknown_mark : output (0xA5 ∷ 0x51 ∷ []) ≡ ascii "end 0 10\n"
unfolding run step_of item_of start_of dec mark_of
unknown_mark = refl

pub not_first : output (frame 0) ≡ ascii "end 0 12\n"
unfolding run step_of item_of start_of dec mark_of
not_first = refl

pub example : output (settings ++ definition ++ frame 0 ++ frame 0 ++ frame 0 ++ frame 0 ++ frame 0 ++ frame 1)
    ≡ ascii "D 2 slot 0\nF 8 slot 0 z 5F000000 value 3F800000\nend 8 0\n"
unfolding run step_of item_of start_of mark_of settings_of define_of frame_of bad_flags order_of condition_of dec hex8 created_by defined_by processed_by flat_map frames.effective_of frames.meets frames.step_of frames.blank_anomaly frames.blank_report pad blank_signal length_ok scale_ok id_ok mux_ok sign_ok allowed made_of updated folded held settled score_of score_at floored_variance floor_of sqrt_approx raw_signal signal_of value of_bits to_bits of_int add sub mul div neg lt le eq
example = refl

-- after the last record that is counted: the end, or 15 for whatever bytes follow
pub all_counted : (e : SignalIdsEngine) → output_from (record { count = 4294967295; engine = e }) [] ≡ ascii "end 4294967295 0\n"
unfolding run step_of item_of dec
all_counted e = refl

pub one_too_many : (e : SignalIdsEngine) (a : ℕ) (s : List ℕ) → output_from (record { count = 4294967295; engine = e }) (a ∷ s) ≡ ascii "end 4294967295 15\n"
unfolding run step_of dec
one_too_many e a s = rw (last_count 4294967295 (a ∷ s) (λ z. omega arith) refl) refl
