-- A text that grows core by core.
use Rattle.std.proofs.Common.{◌≡◌, ℕ, suc, ◌+◌, ◌-◌, ◌<◌, List, ◌++◌, append_assoc, arith}
use Rattle.listing.specs.Listings.{for_cores}

-- one core's text more of what is left
pub core_more : (text : ℕ → List ℕ) (a whole : List ℕ) (cores core : ℕ) → a ++ for_cores text (cores - core) core ≡ whole → (b : List ℕ)
    → core < cores → b ≡ a ++ text core → b ++ for_cores text (cores - (core + 1)) (core + 1) ≡ whole
core_more text a whole cores core so_far b l e =
    let n : cores - core ≡ suc (cores - (core + 1)) = omega arith in
    rw (e, append_assoc) (rw n at so_far)
