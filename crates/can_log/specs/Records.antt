-- Document 01, "The log", as amended by document 02, T-01 and T-05: the record at the front of the bytes, and what its bytes say.
-- Assumes nothing.
use Rattle.std.specs.Prelude.{ℕ, ◌+◌, ◌*◌, ◌/◌, ◌%◌, Bool, true, false, cond, not, ◌&&◌, ◌||◌, List, length, get_or, take, ltb, leb, eqb, Float, Option, Some, None, Result, Ok, Err}
use Rattle.std.specs.Float.Ieee.{of_bits}
use Rattle.std.specs.Float.{binary32}
use Rattle.bits.specs.declared.ByteOrder.{ByteOrder}
use Rattle.conversion.specs.declared.Condition.{Condition}
use Rattle.conversion.specs.declared.SignalDefinition.{SignalDefinition}
use Rattle.frames.specs.declared.FrameHeader.{FrameHeader}
use Rattle.can_log.specs.declared.decode.Mark.{Mark}
use Rattle.can_log.specs.declared.decode.Request.{Request}
use Rattle.can_log.specs.declared.decode.Item.{Item}
use Rattle.can_log.specs.declared.decode.Stop.{Stop}

-- ---- what may stand at the front of the bytes
pub data Front : Type 0 where
  -- no byte, or a part of a record
  incomplete : Front
  -- the log stops, with this number
  fault : ℕ → Front
  -- a record: alpha and threshold; a definition; a slot; what a frame's record says before its data
  settings : Float → Float → Front
  definition : SignalDefinition → Front
  removal : ℕ → Front
  frame : FrameHeader → Front

-- document 01's number of each reason to stop
abbrev pub stop_number : Stop → ℕ
stop_number Stop.UnknownMark = 10
stop_number Stop.Cut = 11
stop_number Stop.Misplaced = 12
stop_number Stop.BadFlags = 13
stop_number Stop.BadLength = 14
stop_number Stop.TooManyRecords = 15

-- what each case of an answer means
abbrev pub request_means : Request → Front
request_means (Request.Settings alpha threshold) = settings alpha threshold
request_means (Request.Define d) = definition d
request_means (Request.Remove slot) = removal slot

abbrev pub item_means : Result (Option Item) Stop → Front
item_means (Ok None) = incomplete
item_means (Ok (Some (Item.Call q))) = request_means q
item_means (Ok (Some (Item.Frame h))) = frame h
item_means (Err e) = fault (stop_number e)

-- a record, or why it is none, stands at the front
abbrev pub in_front : Result Item Stop → Result (Option Item) Stop
in_front (Ok i) = Ok (Some i)
in_front (Err e) = Err e

-- ---- the mark: A5 50, A5 44, A5 52, A5 46 or A5 58 (T-05)
unfoldable pub mark_of : ℕ → ℕ → Option Mark
mark_of a b =
    cond (eqb a 0xA5)
    (cond (eqb b 0x50) (Some Mark.Settings)
    (cond (eqb b 0x44) (Some Mark.Definition)
    (cond (eqb b 0x52) (Some Mark.Removal)
    (cond (eqb b 0x46) (Some Mark.Frame)
    (cond (eqb b 0x58) (Some Mark.FdFrame) None))))) None

-- a mark that is none of these stops the log
abbrev pub known : Option Mark → Result Mark Stop
known (Some k) = Ok k
known None = Err Stop.UnknownMark

-- how many bytes a record has, its mark among them; an unknown mark is known by its two
abbrev pub size_of : Option Mark → ℕ
size_of (Some Mark.Settings) = 10
size_of (Some Mark.Definition) = 24
size_of (Some Mark.Removal) = 4
size_of (Some Mark.Frame) = 16
size_of (Some Mark.FdFrame) = 72
size_of None = 2

-- ---- little-endian numbers at a place, and a float by its bits
abbrev pub le16 : List ℕ → ℕ → ℕ
le16 s i = get_or s i 0 + 256 * get_or s (i + 1) 0

abbrev pub le32 : List ℕ → ℕ → ℕ
le32 s i = get_or s i 0 + 256 * get_or s (i + 1) 0 + 65536 * get_or s (i + 2) 0 + 16777216 * get_or s (i + 3) 0

abbrev pub float : List ℕ → ℕ → Float
float s i = of_bits binary32 (le32 s i)

-- ---- settings: alpha, threshold
unfoldable pub settings_of : List ℕ → Front
settings_of s = settings (float s 2) (float s 6)

-- ---- a definition. Its flags from bit 0, each by its power of two: extended, Motorola, signed, multiplexor, has condition
abbrev pub flag : ℕ → ℕ → Bool
flag power flags = eqb (flags / power % 2) 1

-- an undefined flag is set, or a condition number stands without its flag
unfoldable pub bad_flags : ℕ → ℕ → Bool
bad_flags flags number = leb 32 flags || (not (flag 16 flags) && not (eqb number 0))

unfoldable pub order_of : ℕ → ByteOrder
order_of flags = cond (flag 2 flags) ByteOrder.BigEndian ByteOrder.LittleEndian

unfoldable pub condition_of : ℕ → ℕ → Condition
condition_of flags number = cond (flag 16 flags) (Condition.Only number) Condition.Always

-- identifier, flags, start, length, scale, offset, name hash, condition
abbrev pub definition_of : List ℕ → ℕ → SignalDefinition
definition_of s flags =
    record {
      can_id = le32 s 2;
      is_extended = eqb (flags % 2) 1;
      start_bit = le16 s 7;
      bit_length = get_or s 9 0;
      byte_order = order_of flags;
      scale = float s 10;
      offset = float s 14;
      name_hash = le32 s 18;
      signed = flag 4 flags;
      is_multiplexor = flag 8 flags;
      condition = condition_of flags (le16 s 22);
    }

unfoldable pub define_of : List ℕ → Front
define_of s = cond (bad_flags (get_or s 6 0) (le16 s 22)) (fault 13) (definition (definition_of s (get_or s 6 0)))

-- ---- a removal: slot
unfoldable pub remove_of : List ℕ → Front
remove_of s = removal (le16 s 2)

-- ---- a frame: flags, of which bit 0 is extended, bit 1 remote (T-01) and none above defined; length, at most 15, of a remote frame too; identifier.
-- Its eight data bytes follow
abbrev pub classic_header : List ℕ → FrameHeader
classic_header s =
    record {
      id = le32 s 4;
      is_extended = eqb (get_or s 2 0 % 2) 1;
      is_remote = flag 2 (get_or s 2 0);
      is_fd = false;
      length = get_or s 3 0;
    }

unfoldable pub frame_of : List ℕ → Front
frame_of s =
    cond (leb 4 (get_or s 2 0)) (fault 13)
    (cond (ltb 15 (get_or s 3 0)) (fault 14) (frame (classic_header s)))

-- ---- an FD frame (T-05): flags, of which bit 0 is extended and none above defined; length, a number of bytes that is listed; identifier.
-- Its 64 data bytes follow. The length is one of 0 to 8, 12, 16, 20, 24, 32, 48 and 64
unfoldable pub fd_length : ℕ → Bool
fd_length n = leb n 8 || (eqb n 12 || (eqb n 16 || (eqb n 20 || (eqb n 24 || (eqb n 32 || (eqb n 48 || eqb n 64))))))

abbrev pub fd_header : List ℕ → FrameHeader
fd_header s = record { id = le32 s 4; is_extended = eqb (get_or s 2 0) 1; is_remote = false; is_fd = true; length = get_or s 3 0 }

unfoldable pub fd_frame_of : List ℕ → Front
fd_frame_of s = cond (leb 2 (get_or s 2 0)) (fault 13) (cond (fd_length (get_or s 3 0)) (frame (fd_header s)) (fault 14))

-- ---- the record that a mark is the mark of, s being its bytes
abbrev pub record_of : List ℕ → Option Mark → Front
record_of s (Some Mark.Settings) = settings_of s
record_of s (Some Mark.Definition) = define_of s
record_of s (Some Mark.Removal) = remove_of s
record_of s (Some Mark.Frame) = frame_of s
record_of s (Some Mark.FdFrame) = fd_frame_of s
record_of s None = fault 10

-- after n sound records: the first has to be the settings, and no later one may be
abbrev pub misplaced : ℕ → Option Mark → Bool
misplaced n (Some Mark.Settings) = not (eqb n 0)
misplaced n (Some Mark.Definition) = eqb n 0
misplaced n (Some Mark.Removal) = eqb n 0
misplaced n (Some Mark.Frame) = eqb n 0
misplaced n (Some Mark.FdFrame) = eqb n 0
misplaced n None = false

-- behind a mark: a record that is cut waits for its rest, one at a wrong place stops with 12, and else its own bytes decide
abbrev pub marked : ℕ → List ℕ → Option Mark → Front
marked n s k = cond (ltb (length s) (size_of k)) incomplete (cond (misplaced n k) (fault 12) (record_of (take (size_of k) s) k))

-- what stands at the front of the bytes, after n sound records. Whether the input ends where the bytes do is not asked here:
-- what is cut waits, and at the end of the input that is 11 (`wait_step` of Output)
unfoldable pub item_of : ℕ → List ℕ → Front
item_of n s =
    cond (eqb (length s) 0) incomplete
    (cond (eqb n 4294967295) (fault 15)
    (cond (eqb (length s) 1) incomplete
    (marked n s (mark_of (get_or s 0 0) (get_or s 1 0)))))
