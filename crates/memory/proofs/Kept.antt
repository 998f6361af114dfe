-- A packed memory's bits and kept words are those of the words that it means.
use Rattle.std.proofs.Common.{◌≡◌, ℕ, zero, suc, ◌+◌, ◌*◌, ◌/◌, ◌%◌, ◌^◌, ◌<◌, ◌≤◌, cond, eqb, List, map, length, get_or, take, drop, sym, ap, ◌∙◌, ap₂, add-zero, zero-add, mod-lt, mod-eq_of_lt, arith, drop_of_length-le, pow_pos, shr-shr}
use native.Mathlib.Nat.{div-eq_of_lt}
use lib.Count.{ones, ones_cat, ones_step}
use lib.Pow.{mod-pow-add}
use Rattle.std.specs.List.{range_with_len}
use Rattle.std.proofs.lemmas.List.{drop_more, get_or_past, get_or-take, length-take-le}
use Rattle.std.proofs.lemmas.Bool.Decides.{nat_tests}
use Rattle.memory.specs.Packing.{rank, line_word, bitmap_of, non_zero, unpacked}
use Rattle.memory.proofs.Bitmaps.{rank_lt, ones_zero}

-- one line on, there is its own bit more
rank_more : (bits i : ℕ) → rank bits (i + 1) ≡ bits / 2 ^ i % 2 + rank bits i
rank_more bits i =
    let one : ones (bits / 2 ^ i % 2) ≡ bits / 2 ^ i % 2 = grind (arith, ones_step (bits / 2 ^ i % 2), ones_zero) in
    let turn : i + 1 ≡ 1 + i = omega arith in
    rw (turn, mod-pow-add bits 1 i) (ones_cat i (bits / 2 ^ i % 2) (bits % 2 ^ i) (mod-lt bits (pow_pos i)) ∙ ap (λ x. x + rank bits i) one)

module _ (bits : ℕ) (kept : List ℕ) (filled : (k : ℕ) → k < ones bits → 0 < get_or kept k 0) where
  -- a line's word is 0 where its bit does not stand, and nowhere else
  bit_of : (i : ℕ) → cond (eqb (line_word bits kept i) 0) 0 1 ≡ bits / 2 ^ i % 2
  bit_of i = grind (arith, nat_tests, rank_lt, filled)

  -- from line i on
  bitmap_from : (n i : ℕ) → bits < 2 ^ (i + n) → bitmap_of (map (line_word bits kept) (range_with_len i n)) ≡ bits / 2 ^ i
  bitmap_from zero i h = let small : bits < 2 ^ i = rw (add-zero i) at h in sym (div-eq_of_lt small)
  bitmap_from (suc n) i h =
      let on : i + suc n ≡ i + 1 + n = omega arith in
      let rest : bitmap_of (map (line_word bits kept) (range_with_len (i + 1) n)) ≡ bits / 2 ^ i / 2 = bitmap_from n (i + 1) (rw on at h) ∙ sym (shr-shr bits i 1) in
      ap₂ (λ (x y : ℕ). x + 2 * y) (bit_of i) rest ∙ omega arith

  -- a cell past the end would read as 0
  room : ones bits ≤ length kept
  room = grind (arith, filled (length kept), get_or_past kept (length kept) 0)

  -- from line i on
  kept_from : (n i : ℕ) → bits < 2 ^ (i + n) → non_zero (map (line_word bits kept) (range_with_len i n)) ≡ drop (rank bits i) (take (ones bits) kept)
  kept_from zero i h =
      let small : bits < 2 ^ i = rw (add-zero i) at h in
      let all : rank bits i ≡ ones bits = ap ones (mod-eq_of_lt small) in
      sym (drop_of_length-le (take (ones bits) kept) (omega (arith, length-take-le (ones bits) kept room)))
  kept_from (suc n) i h =
      let on : i + suc n ≡ i + 1 + n = omega arith in
      let rest = kept_from n (i + 1) (rw on at h) in
      let more = rank_more bits i in
      let long = length-take-le (ones bits) kept room in
      let own = get_or-take (ones bits) kept (rank bits i) 0 in
      let step = drop_more (take (ones bits) kept) (rank bits i) 0 in
      grind (arith, nat_tests, rank_lt, filled)

  pub is_bitmap : (n : ℕ) → bits < 2 ^ n → bits ≡ bitmap_of (unpacked n bits kept)
  is_bitmap n below =
      let whole : bits / 2 ^ 0 ≡ bits = omega arith in
      sym (bitmap_from n 0 (rw (zero-add n) below) ∙ whole)

  pub is_kept : (n : ℕ) → bits < 2 ^ n → take (ones bits) kept ≡ non_zero (unpacked n bits kept)
  is_kept n below =
      let none : bits % 2 ^ 0 ≡ 0 = omega arith in
      let first : rank bits 0 ≡ 0 = ap ones none ∙ ones_zero in
      sym (kept_from n 0 (rw (zero-add n) below) ∙ ap (λ k. drop k (take (ones bits) kept)) first)
