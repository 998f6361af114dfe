-- A trace record, read from bytes that begin with its map byte.
use Rattle.std.specs.Prelude.{ℕ, zero, suc, ◌+◌, ◌*◌, Bool, cond, not, ◌&&◌, ◌||◌, List, length, Ok, Err, Result, ◌==◌, nat_le, nat_lt, slice_index}
use Rattle.refusal.specs.declared.Reason.{Reason}
use Rattle.refusal.specs.declared.Reason.TheVariants.{UnknownMapBits, CutShort, KindByte, RedundantField}
use Rattle.model.specs.Bits.{bit, bit_at}
use Rattle.model.specs.Numbers.{kind_of}
use Rattle.trace.specs.declared.Record.{Record}

-- where the fields stand and where the record ends: a gap has 2 bytes, a line 1, a word 4, a kind 1
abbrev pub line_at : ℕ → ℕ
line_at map = 1 + 2 * bit map 0

abbrev pub word_at : ℕ → ℕ
word_at map = line_at map + bit map 1

abbrev pub kind_at : ℕ → ℕ
kind_at map = word_at map + 4 * bit map 2

abbrev pub size : ℕ → ℕ
size map = kind_at map + bit map 3

-- the number in so many bytes from a place, high byte first
abbrev pub big_endian : ℕ → List ℕ → ℕ → ℕ
big_endian zero bytes at = 0
big_endian (suc zero) bytes at = slice_index bytes at
big_endian (suc (suc k)) bytes at = big_endian (suc k) bytes at * 256 + slice_index bytes (at + suc k)

abbrev pub map_of : List ℕ → ℕ
map_of bytes = slice_index bytes 0

abbrev pub has : List ℕ → ℕ → Bool
has bytes k = bit_at (map_of bytes) k

-- the field of bit k, of so many bytes at a place, or what its absence means
abbrev pub field : List ℕ → ℕ → ℕ → ℕ → ℕ → ℕ
field bytes k width at absent = cond (has bytes k) (big_endian width bytes at) absent

abbrev pub gap_in : List ℕ → ℕ
gap_in bytes = field bytes 0 2 1 0

-- `before` is the line of the record before
abbrev pub line_in : List ℕ → ℕ → ℕ
line_in bytes before = field bytes 1 1 (line_at (map_of bytes)) before

abbrev pub word_in : List ℕ → ℕ
word_in bytes = field bytes 2 4 (word_at (map_of bytes)) 0

abbrev pub kind_in : List ℕ → ℕ
kind_in bytes = field bytes 3 1 (kind_at (map_of bytes)) 0

-- a kind byte that is neither 1 nor 2
abbrev pub strange_kind : List ℕ → Bool
strange_kind bytes = has bytes 3 && not (kind_in bytes == 1 || kind_in bytes == 2)

-- a field that says what its absence says, or a word without a store
abbrev pub redundant : List ℕ → ℕ → Bool
redundant bytes before =
    (has bytes 0 && gap_in bytes == 0) || (has bytes 1 && line_in bytes before == before)
    || (has bytes 2 && (word_in bytes == 0 || not (kind_in bytes == 1)))

abbrev pub record_in : List ℕ → ℕ → Record
record_in bytes before =
    record { gap = gap_in bytes; line = line_in bytes before; word = word_in bytes; kind = kind_of (kind_in bytes) }

-- the record that the bytes begin with, or the lowest number that is wrong with it
unfoldable pub decode : List ℕ → ℕ → Result Record Reason
decode bytes before =
    cond (nat_le 16 (map_of bytes)) (Err UnknownMapBits)
    (cond (nat_lt (length bytes) (size (map_of bytes))) (Err CutShort)
    (cond (strange_kind bytes) (Err KindByte)
    (cond (redundant bytes before) (Err RedundantField) (Ok (record_in bytes before)))))
