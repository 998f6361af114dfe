-- The bytes of an accepted record are those that the writer writes of it.
use Rattle.std.proofs.Common.{◌≡◌, ℕ, zero, suc, ◌+◌, ◌*◌, ◌<◌, ◌≤◌, Bool, false, cond, not, ◌&&◌, ◌||◌, eqb, List, [], ◌∷◌, ◌++◌, length, get_or, take, drop, Ok, sym, refl, ap, ◌∙◌, append_assoc, div-one, add-one, arith, length-drop, take-add}
use Rattle.std.proofs.lemmas.Grind.{common_steps}
use Rattle.std.proofs.lemmas.List.{take_more, get_or-drop}
use Rattle.std.proofs.lemmas.Nat.{shr-shr, div-mul-add, mod-mul-add}
use Rattle.std.proofs.lemmas.Bool.Decides.{nat_tests}
use Rattle.model.specs.Numbers.{kind_number, kind_of}
use Rattle.model.specs.Bits.{bit}
use Rattle.trace.specs.declared.Record.{Record}
use Rattle.trace.specs.Reading.{decode, size, line_at, word_at, kind_at, map_of, has, big_endian, gap_in, line_in, word_in, kind_in}
use Rattle.trace.specs.Writing.{bytes_of, part, map_by, differs, encode}
use Rattle.trace.proofs.Accepted.{accepted}
use Rattle.trace.proofs.Windows.{Bytes}

-- a map byte below 16 is made of its four bits
bits_of : (m : ℕ) → m < 16 → map_by (eqb (bit m 0) 1) (eqb (bit m 1) 1) (eqb (bit m 2) 1) (eqb (bit m 3) 1) ≡ m
bits_of m h = grind (arith, nat_tests, div-one m, shr-shr m 1 1, shr-shr m 2 1)

-- so many bytes at a place are those of their number
number_bytes : (width : ℕ) (b : List ℕ) (at : ℕ) → Bytes b → at + width ≤ length b → take width (drop at b) ≡ bytes_of width (big_endian width b at)
number_bytes zero b at h r = refl
number_bytes (suc zero) b at h r = grind (arith, common_steps)
number_bytes (suc (suc k)) b at h r =
    let low : get_or b (at + suc k) 0 < 256 = h (at + suc k) in
    let high : ℕ = big_endian (suc k) b at in
    let more : suc k < length (drop at b) = simp length-drop (omega arith) in
    rw (← add-one (suc k), take_more (drop at b) (suc k) 0 more) (rw (number_bytes (suc k) b at h (omega arith), get_or-drop at b (suc k) 0, div-mul-add high 256 (get_or b (at + suc k) 0) low, mod-mul-add high 256 (get_or b (at + suc k) 0) low))

-- a field of n bytes, t being its bit in the map
piece : (width t n : ℕ) (b : List ℕ) (at absent : ℕ) → n ≡ width * t → t < 2 → Bytes b → at + n ≤ length b
    → take n (drop at b) ≡ part (eqb t 1) width (cond (eqb t 1) (big_endian width b at) absent)
piece width t n b at absent e l h r = grind (arith, nat_tests, number_bytes width b at h)

regroup : (o g l w k : List ℕ) → (((o ++ g) ++ l) ++ w) ++ k ≡ o ++ (g ++ (l ++ (w ++ k)))
regroup o g l w k = simp append_assoc

-- a field that is present differs from what its absence means
present : (h : Bool) (x a : ℕ) → (h && eqb (cond h x a) a) ≡ false → h ≡ differs (cond h x a) a
present h x a e = grind (arith, nat_tests)

kind_present : (h : Bool) (x : ℕ) → (h && not (eqb (cond h x 0) 1 || eqb (cond h x 0) 2)) ≡ false
    → (h ≡ differs (cond h x 0) 0) × (kind_number (kind_of (cond h x 0)) ≡ cond h x 0)
kind_present h x e = (grind (arith, nat_tests), grind (arith, nat_tests))

lean_parts : (a b c d e : Bool) → (a || b || (c && (d || e))) ≡ false → (a ≡ false) × (b ≡ false) × ((c && d) ≡ false)
lean_parts a b c d e h = grind arith

same_bytes : (m : ℕ) (g g' l l' w w' k k' : Bool) (a b c d d' : ℕ) → m ≡ map_by g l w k → g ≡ g' → l ≡ l' → w ≡ w' → k ≡ k' → d ≡ d'
    → m ∷ (part g 2 a ++ (part l 1 b ++ (part w 4 c ++ part k 1 d))) ≡ map_by g' l' w' k' ∷ (part g' 2 a ++ (part l' 1 b ++ (part w' 4 c ++ part k' 1 d')))
same_bytes m g g' l l' w w' k k' a b c d d' e p q s t u = cc

pub canonical : (b : List ℕ) (before : ℕ) (r : Record) → Bytes b → decode b before ≡ Ok r → take (size (map_of b)) b ≡ encode r before
unfolding encode
canonical b before r h e =
    let a = accepted b before r e in
    let m : ℕ = map_of b in
    let room : size m ≤ length b = a.room in
    let lean = lean_parts (has b 0 && eqb (gap_in b) 0) (has b 1 && eqb (line_in b before) before) (has b 2) (eqb (word_in b) 0) (not (eqb (kind_in b) 1)) a.lean in
    let kind = kind_present (has b 3) (big_endian 1 b (kind_at m)) a.kind in
    let apart : take (size m) b ≡ m ∷ (part (has b 0) 2 (gap_in b) ++ (part (has b 1) 1 (line_in b before) ++ (part (has b 2) 4 (word_in b) ++ part (has b 3) 1 (kind_in b)))) =
    take-add (kind_at m) (bit m 3) b
    ∙ rw (
      take-add (word_at m) (4 * bit m 2) b,
      take-add (line_at m) (bit m 1) b,
      take-add 1 (2 * bit m 0) b,
      number_bytes 1 b 0 h (omega arith),
      piece 2 (bit m 0) (2 * bit m 0) b 1 0 refl (omega arith) h (omega arith),
      piece 1 (bit m 1) (bit m 1) b (line_at m) before (omega arith) (omega arith) h (omega arith),
      piece 4 (bit m 2) (4 * bit m 2) b (word_at m) 0 refl (omega arith) h (omega arith),
      piece 1 (bit m 3) (bit m 3) b (kind_at m) 0 (omega arith) (omega arith) h (omega arith),
    )
    (regroup (m ∷ []) (part (has b 0) 2 (gap_in b)) (part (has b 1) 1 (line_in b before)) (part (has b 2) 4 (word_in b)) (part (has b 3) 1 (kind_in b))) in
    apart
    ∙ (same_bytes m _ _ _ _ _ _ _ _ (gap_in b) (line_in b before) (word_in b) (kind_in b) _ (sym (bits_of m a.known))
    (present (has b 0) (big_endian 2 b 1) 0 lean.0) (present (has b 1) (big_endian 1 b (line_at m)) before lean.1) (present (has b 2) (big_endian 4 b (word_at m)) 0 lean.2)
    (rw kind.1 kind.0) (sym kind.1)
    ∙ ap (λ x. encode x before) (sym a.value))
