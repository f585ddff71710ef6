-- Document 01, "The log": the lines that are printed, as lists of ASCII codes.
-- Assumes nothing.
use Rattle.std.specs.Prelude.{ℕ, zero, suc, ◌+◌, ◌/◌, ◌%◌, ◌≡◌, cond, List, [], ◌∷◌, ◌++◌, length, ltb, Float, Result, Ok, Err}
use Prim.Native.Char.{code}
use Prim.Native.String.{String, [] as «empty», ◌∷◌ as chars}
use Rattle.std.proofs.lemmas.List.Edits.{sets}
use Rattle.std.specs.Float.Ieee.{to_bits}
use Rattle.std.specs.Float.{binary32}
use Rattle.table.specs.declared.TableError.{TableError}
use Rattle.table.specs.Table.{error_number}
use Rattle.frames.specs.declared.SignalAnomaly.{SignalAnomaly}
use Rattle.can_log.specs.declared.lines.LogLine.{LogLine}
use Rattle.can_log.specs.declared.lines.Answer.{Answer}
use Rattle.can_log.specs.declared.lines.NoRoom.{NoRoom}

abbrev pub ascii : String → List ℕ
ascii «empty» = []
ascii (chars c s) = code c ∷ ascii s

-- ---- numbers: in decimal, of at most f digits
unfoldable pub dec : ℕ → ℕ → List ℕ
dec zero n = []
dec (suc f) n = cond (ltb n 10) ((48 + n) ∷ []) (dec f (n / 10) ++ ((48 + n % 10) ∷ []))

-- a number below 2 ^ 32 has at most ten digits
abbrev pub decimal : ℕ → List ℕ
decimal n = dec 10 n

-- ---- floats: eight upper-case hexadecimal digits
abbrev pub upper : ℕ → ℕ
upper d = cond (ltb d 10) (48 + d) (55 + d)

unfoldable pub hex8 : ℕ → List ℕ
hex8 n =
    upper (n / 0x10000000 % 16) ∷ upper (n / 0x1000000 % 16) ∷ upper (n / 0x100000 % 16) ∷ upper (n / 0x10000 % 16)
    ∷ upper (n / 0x1000 % 16) ∷ upper (n / 0x100 % 16) ∷ upper (n / 0x10 % 16) ∷ upper (n % 16) ∷ []

-- ---- what the lines are made of: a word, a number, a word, a number
abbrev pub numbers : List ℕ → ℕ → List ℕ → ℕ → List ℕ
numbers letter n word k = letter ++ decimal n ++ word ++ decimal k

abbrev pub line : List ℕ → ℕ → List ℕ → ℕ → List ℕ
line letter n word k = numbers letter n word k ++ ascii "\n"

-- a word and a float's bits
abbrev pub field : List ℕ → Float → List ℕ
field word x = word ++ hex8 (to_bits binary32 x)

-- ---- what a line says of a table call: define's slot, success, or the number of a refusal
abbrev pub slot_answer : Result ℕ TableError → Answer
slot_answer (Ok slot) = Answer.Slot slot
slot_answer (Err e) = Answer.Refused (error_number e)

abbrev pub done_answer : Result Unit TableError → Answer
done_answer (Ok done) = Answer.Done
done_answer (Err e) = Answer.Refused (error_number e)

-- ---- the lines: of a table call, the letter D or R and the record's number n
abbrev pub answer_line : List ℕ → ℕ → Answer → List ℕ
answer_line letter n (Answer.Slot k) = line letter n (ascii " slot ") k
answer_line letter n Answer.Done = letter ++ decimal n ++ ascii " ok\n"
answer_line letter n (Answer.Refused k) = line letter n (ascii " refused ") k

-- of a listed anomaly
abbrev pub anomaly_line : ℕ → SignalAnomaly → List ℕ
anomaly_line n x =
    numbers (ascii "F ") n (ascii " slot ") x.slot ++ field (ascii " z ") x.z_score ++ field (ascii " value ") x.physical_value ++ ascii "\n"

-- one for each, in order
abbrev pub anomaly_lines : ℕ → List SignalAnomaly → List ℕ
anomaly_lines n [] = []
anomaly_lines n (x ∷ xs) = anomaly_line n x ++ anomaly_lines n xs

-- the number of sound records, and the stopping number
abbrev pub end_line : ℕ → ℕ → List ℕ
end_line n k = line (ascii "end ") n (ascii " ") k

abbrev pub text_of : LogLine → List ℕ
text_of (LogLine.Defined n a) = answer_line (ascii "D ") n a
text_of (LogLine.Removed n a) = answer_line (ascii "R ") n a
text_of (LogLine.Anomaly n x) = anomaly_line n x
text_of (LogLine.End n k) = end_line n k

-- ---- a line at the front of a buffer, where that has room for any line, and else nothing: so many bytes were written, or there is no room
pub data Written : Type 0 where
  wrote : ℕ → Written
  no_room : Written

-- what each case of the answer means
abbrev pub rendered_means : Result ℕ NoRoom → Written
rendered_means (Ok n) = wrote n
rendered_means (Err e) = no_room

abbrev pub rendered_of : ℕ → LogLine → Written
rendered_of room l = cond (ltb room 55) no_room (wrote (length (text_of l)))

abbrev pub buffer_of : List ℕ → LogLine → List ℕ
buffer_of d l = cond (ltb (length d) 55) d (sets d 0 (text_of l))

-- ---- a text in a lent buffer: t is written into d from place `at` on, r is the place behind it, and e is what d has become
pub record Put (d : List ℕ) (at : ℕ) (t : List ℕ) (r : ℕ) (e : List ℕ) : Type 0 where
  pub stop : r ≡ at + length t
  pub done : e ≡ sets d at t
