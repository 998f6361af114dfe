-- Words behind a bit map: reading them, and packing them line by line.
use Rattle.std.proofs.Common.{◌≡◌, ℕ, bit_or, ◌+◌, ◌-◌, ◌*◌, ◌/◌, ◌%◌, ◌^◌, ◌<◌, ◌≤◌, true, List, [], ◌∷◌, ◌++◌, length, get_or, set, take, replicate, sym, ap, ap₂, ◌∙◌, inl, inr, arith, pow_pos, length-set}
use lib.Count.{ones, ones_cat, ones_step, ones-ones}
use lib.Pow.{split, mod-mod-pow}
use Rattle.std.proofs.lemmas.Nat.{ones-le, one_shl, or_comm, or_shifted, mod_low, shr_high, mod_below, pow-add}
use Rattle.std.proofs.lemmas.Nat.Bits.{bit_at_above, bit_at_cat_low}
use Rattle.std.proofs.lemmas.List.FromFn.{fill_by_all, length-map-range_with_len, get_or-map-range_with_len, map-range_with_len_more}
use Rattle.std.proofs.lemmas.List.{length-replicate, get_or-replicate, get_or-set_same, get_or-set_other, get_or_past, take_more, take_all}
use Rattle.std.proofs.lemmas.Grind.{get_or-set_at}
use Rattle.std.proofs.lemmas.Bool.{cases_lt, eqb-true}
use Rattle.std.proofs.lemmas.Bool.Decides.{nat_tests}
use Rattle.model.specs.Bits.{bit_at}
use Rattle.memory.specs.Packing.{rank, line_word, unpacked}

-- ---- reading

pub length_unpacked : (n bits : ℕ) (kept : List ℕ) → length (unpacked n bits kept) ≡ n
length_unpacked n bits kept = length-map-range_with_len (line_word bits kept) 0 n

-- where no bit stands from a line up, its word is 0
word_none : (n bits : ℕ) (kept : List ℕ) (line : ℕ) → bits < 2 ^ n → n ≤ line → line_word bits kept line ≡ 0
word_none n bits kept line h past = rw (bit_at_above bits n line h past)

-- past the last line too
pub get_or_unpacked : (n bits : ℕ) (kept : List ℕ) (line : ℕ) → bits < 2 ^ n → get_or (unpacked n bits kept) line 0 ≡ line_word bits kept line
get_or_unpacked n bits kept line h =
    elim (cases_lt line n) [
      | inl there ↦ get_or-map-range_with_len (line_word bits kept) 0 n line line 0 there (omega arith)
      | inr past ↦ get_or_past (unpacked n bits kept) line 0 (omega (arith, length_unpacked n bits kept)) ∙ sym (word_none n bits kept line h past)
    ]

-- a bit that stands is a line's ..
pub bit_below : (n bits line : ℕ) → bits < 2 ^ n → bit_at bits line ≡ true → line < n
bit_below n bits line h t = grind (arith, nat_tests, bit_at_above bits n line h)

-- .. and is counted
pub rank_lt : (bits line : ℕ) → bit_at bits line ≡ true → rank bits line < ones bits
rank_lt bits line t =
    let b : bits / 2 ^ line % 2 ≡ 1 = eqb-true _ _ t in
    let e : ones bits ≡ ones (bits / 2 ^ line) + ones (bits % 2 ^ line) = ap ones (sym (split bits line)) ∙ ones_cat line (bits / 2 ^ line) (bits % 2 ^ line) (mod_below bits (2 ^ line) (pow_pos line)) in
    omega (arith, ones_step (bits / 2 ^ line))

-- for reading a line's word
pub ruleset reading = (get_or_unpacked, bit_below, rank_lt, ones-le)

-- ---- without bits

pub ones_zero : ones 0 ≡ 0
ones_zero = ones-ones 0

pub unpacked_zero : (n : ℕ) (kept : List ℕ) → unpacked n 0 kept ≡ replicate n 0
unpacked_zero n kept = sym (fill_by_all (line_word 0 kept) (replicate n 0) n 0 (length-replicate n 0) (λ k h. get_or-replicate n k 0 0 h ∙ sym (word_none 0 0 kept k (omega arith) (omega arith))))

-- for a memory whose words are all 0
pub ruleset no_bits = (ones_zero, unpacked_zero, pow_pos)

-- ---- one line more, with its word

-- a word of 0 takes no bit
pub unpacked_same : (i bits : ℕ) (kept : List ℕ) → bits < 2 ^ i → unpacked (i + 1) bits kept ≡ unpacked i bits kept ++ 0 ∷ []
unpacked_same i bits kept below = map-range_with_len_more (line_word bits kept) 0 i i (omega arith) ∙ ap (λ x. unpacked i bits kept ++ x ∷ []) (word_none i bits kept i below (omega arith))

module _ (bits i : ℕ) (below : bits < 2 ^ i) where
  -- the line's bit is above all others
  as_digit : bit_or bits (2 ^ i) ≡ 1 * 2 ^ i + bits
  as_digit =
      let one : 2 ^ i ≡ 1 * 2 ^ i = omega arith in
      or_comm bits (2 ^ i) ∙ ap (λ b. bit_or b bits) one ∙ or_shifted 1 i bits below

  pub or_below : bit_or bits (2 ^ i) < 2 ^ (i + 1)
  or_below = rw as_digit (omega (arith, pow-add 2 i 1))

  pub ones_or : ones (bit_or bits (2 ^ i)) ≡ ones bits + 1
  ones_or = rw as_digit (omega (arith, ones_cat i 1 bits below, ones-ones 1))

  bit_low : (k : ℕ) → k < i → bit_or bits (2 ^ i) / 2 ^ k % 2 ≡ bits / 2 ^ k % 2
  bit_low k h = rw as_digit (bit_at_cat_low 1 i bits k h)

  rest_low : (k : ℕ) → k ≤ i → bit_or bits (2 ^ i) % 2 ^ k ≡ bits % 2 ^ k
  rest_low k h =
      let on : (i - k) + k ≡ i = omega arith in
      let whole : bit_or bits (2 ^ i) % 2 ^ i ≡ bits = rw as_digit (mod_low 1 i bits below) in
      sym (mod-mod-pow (bit_or bits (2 ^ i)) (i - k) k) ∙ ap (λ n. n % 2 ^ k) (rw on whole)

  module _ (kept : List ℕ) (w : ℕ) where
    word_low : (k : ℕ) → k < i → line_word (bit_or bits (2 ^ i)) (set kept (ones bits) w) k ≡ line_word bits kept k
    word_low k h =
        let b = bit_low k h in
        let r = rest_low k (omega arith) in
        grind (arith, nat_tests, rank_lt, get_or-set_other)

    word_own : ones bits < length kept → line_word (bit_or bits (2 ^ i)) (set kept (ones bits) w) i ≡ w
    word_own room =
        let b : bit_or bits (2 ^ i) / 2 ^ i ≡ 1 = rw as_digit (shr_high 1 i bits below) in
        let r : bit_or bits (2 ^ i) % 2 ^ i ≡ bits = rw as_digit (mod_low 1 i bits below) in
        grind (arith, nat_tests, get_or-set_same)

    pub unpacked_more : ones bits < length kept → unpacked (i + 1) (bit_or bits (2 ^ i)) (set kept (ones bits) w) ≡ unpacked i bits kept ++ w ∷ []
    unpacked_more room =
        let new = line_word (bit_or bits (2 ^ i)) (set kept (ones bits) w) in
        let others = fill_by_all new (unpacked i bits kept) i 0 (length_unpacked i bits kept) (λ k h. get_or_unpacked i bits kept k below ∙ sym (word_low k h)) in
        map-range_with_len_more new 0 i i (omega arith) ∙ ap₂ (λ words x. words ++ x ∷ []) (sym others) (word_own room)

-- the first words of a list, and the next
pub take_word : (words : List ℕ) (i : ℕ) → i < length words → take (i + 1) words ≡ take i words ++ get_or words i 0 ∷ []
take_word words i h = take_more words i 0 h

-- what `1 << line` computes
pub line_bit : (line : ℕ) → line < 64 → 1 * 2 ^ line % 2 ^ 64 ≡ 2 ^ line
line_bit line h = one_shl line 64 h

-- for the loop that packs line by line
pub ruleset packing = (line_bit, ones_zero, or_below, ones_or, ones-le, pow-add, unpacked_same, unpacked_more, length_unpacked, length-set, get_or-set_at, get_or-set_other, take_word, take_all)
