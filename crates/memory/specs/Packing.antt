-- Words behind a bit map: only the words whose bit stands are kept, in rising line order.
use Rattle.std.specs.Prelude.{ℕ, ◌+◌, ◌*◌, ◌%◌, ◌^◌, cond, List, [], ◌∷◌, map, ◌==◌, count_ones, slice_index}
use Rattle.std.specs.List.{range_with_len}
use Rattle.model.specs.Bits.{bit_at}

-- how many bits stand below a line's own
abbrev pub rank : ℕ → ℕ → ℕ
rank bits line = count_ones (bits % 2 ^ line)

-- the word of a line: the kept word that as many others stand before as bits stand below; 0 where no bit stands
abbrev pub line_word : ℕ → List ℕ → ℕ → ℕ
line_word bits kept line = cond (bit_at bits line) (slice_index kept (rank bits line)) 0

-- the words of n lines
abbrev pub unpacked : ℕ → ℕ → List ℕ → List ℕ
unpacked n bits kept = map (line_word bits kept) (range_with_len 0 n)

-- the other way round: the bit map of some words, line 0 lowest ..
abbrev pub bitmap_of : List ℕ → ℕ
bitmap_of [] = 0
bitmap_of (word ∷ words) = cond (word == 0) 0 1 + 2 * bitmap_of words

-- .. and those of them that are kept
abbrev pub non_zero : List ℕ → List ℕ
non_zero [] = []
non_zero (word ∷ words) = cond (word == 0) (non_zero words) (word ∷ non_zero words)
