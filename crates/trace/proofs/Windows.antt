-- Parts of lists of bytes.
use Rattle.std.proofs.Common.{◌≡◌, ℕ, ◌+◌, ◌-◌, ◌<◌, ◌≤◌, List, [], ◌++◌, length, get_or, drop, arith}
use Rattle.std.proofs.lemmas.Grind.{common_steps}
use Rattle.std.proofs.lemmas.List.{drop-take}
use Rattle.trace.specs.Whole.{window}

-- what every list of bytes keeps
abbrev pub Bytes : List ℕ → Type 0
Bytes b = (i : ℕ) → get_or b i 0 < 256

-- nothing stands from the end on
pub window_over : (b : List ℕ) (at end : ℕ) → end ≤ at → [] ≡ window b at end
window_over b at end h = grind (arith, common_steps)

pub window_length : (b : List ℕ) (at end : ℕ) → length (window b at end) ≤ end - at
window_length b at end = grind (arith, common_steps)

-- the rest of a part
pub window_drop : (b : List ℕ) (at end n : ℕ) → at + n ≤ end → drop n (window b at end) ≡ window b (at + n) end
window_drop b at end n h = grind (arith, common_steps, drop-take n (end - (at + n)) (drop at b))

-- what stands between two parts of a list
pub window_between : (front xs rest : List ℕ) → window (front ++ (xs ++ rest)) (length front) (length front + length xs) ≡ xs
window_between front xs rest = grind (arith, common_steps)

-- all of a list
pub window_all : (b : List ℕ) → window b 0 (length b) ≡ b
window_all b = grind (arith, common_steps)

pub window_bytes : (b : List ℕ) (at end : ℕ) → Bytes b → Bytes (window b at end)
window_bytes b at end h i = grind (arith, common_steps, h (at + i))
