-- What a memory means: a list of words, one for each line.
use Rattle.std.specs.Prelude.{ℕ, ◌≤◌, List, length, slice_index, slice_set}

-- a memory has 1 to 64 lines
abbrev pub LineBounds : List ℕ → Type 0
LineBounds words = (1 ≤ length words) × (length words ≤ 64)

-- the word of a line; a line from the last one's end up reads as 0
abbrev pub word_at : List ℕ → ℕ → ℕ
word_at words line = slice_index words line

-- the words once this one is written; writing a line that is not there changes nothing
abbrev pub with_word : List ℕ → ℕ → ℕ → List ℕ
with_word words line word = slice_set words line word
