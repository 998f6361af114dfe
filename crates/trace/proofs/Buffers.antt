-- Laws of `put`: bytes put at a place of a buffer.
use Rattle.std.proofs.Common.{◌≡◌, ℕ, ◌+◌, ◌≤◌, List, [], ◌++◌, length, take, drop, sym, ◌∙◌, append_assoc, arith}
use Rattle.std.proofs.lemmas.Grind.{common_steps}
use Rattle.std.proofs.lemmas.List.{take_at, drop_at, drop-drop}
use Rattle.trace.specs.Writing.{put}

pub put_none : (out : List ℕ) (at : ℕ) → put out at [] ≡ out
unfolding put
put_none out at = grind (arith, common_steps)

put_after : (front rest ys : List ℕ) (n : ℕ) → n ≡ length front → put (front ++ rest) n ys ≡ front ++ (ys ++ drop (length ys) rest)
unfolding put
put_after front rest ys n e = rw (← drop-drop (length ys) n (front ++ rest), take_at front rest n (sym e), drop_at front rest n (sym e))

-- bytes put after others
pub put_then : (out : List ℕ) (at : ℕ) (xs : List ℕ) → at + length xs ≤ length out → (b c : List ℕ) (n : ℕ) (ys : List ℕ)
    → b ≡ put out at xs → n ≡ at + length xs → c ≡ put b n ys → c ≡ put out at (xs ++ ys)
unfolding put
put_then out at xs room b c n ys p q r =
    let front : List ℕ = take at out ++ xs in
    let e : b ≡ front ++ drop (at + length xs) out = p ∙ sym (append_assoc (take at out) xs _) in
    let l : n ≡ length front = grind (arith, common_steps) in
    grind (arith, common_steps, put_after front (drop (at + length xs) out) ys n l)
