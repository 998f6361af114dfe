-- The words of a packed memory.
use Rattle.std.specs.Prelude.{ℕ, List}
use Rattle.std.proofs.Common.{arith}
use Rattle.std.proofs.lemmas.List.FromFn.{length-map-range_with_len}
use Rattle.memory.specs.declared.packed.Packed.{Packed}
use Rattle.memory.specs.Packing.{line_word, unpacked}
use Rattle.memory.specs.Words.{LineBounds}

abbrev pub words_of : Packed → List ℕ
words_of p = unpacked p.lines.count p.bits p.kept

pub packed_bounds : (p : Packed) → LineBounds (words_of p)
packed_bounds p =
    let long = length-map-range_with_len (line_word p.bits p.kept) 0 p.lines.count in
    (omega (arith, long, p.lines.within.0), omega (arith, long, p.lines.within.1))
