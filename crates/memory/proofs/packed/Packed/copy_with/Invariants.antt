use Rattle.std.proofs.Common.{◌≡◌, ℕ, ◌^◌, ◌<◌, length, get_or, take, count_ones}
use Rattle.memory.specs.Packing.{unpacked}
use Rattle.memory.specs.Unpacked.{words_of}
use Rattle.memory.specs.Words.{with_word}
use Rattle.memory.proofs.packed.Packed.copy_with.Given as goal

-- the words so far stand behind the bit map, which has a word for each bit
abbrev pub invariant-loop-i : goal.invariant-loop-i
invariant-loop-i l = record {
  cells : length l.kept ≡ 64;
  below : l.bits < 2 ^ l.i;
  filled : (k : ℕ) → k < count_ones l.bits → 0 < get_or l.kept k 0;
  packed : take l.i (with_word (words_of l.self) l.line l.word) ≡ unpacked l.i l.bits l.kept;
}
