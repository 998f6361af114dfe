-- From core 0's turn on, each of the three arbiters answers in the order of its rule.
use Rattle.std.specs.Prelude.{◌≡◌, ℕ, ◌+◌, ◌%◌, ◌<◌, ◌≤◌, List, [], ◌∷◌, Some, None, Option, refl}
use Rattle.std.proofs.Common.{ap, ◌∙◌, ap₂, mod-lt, mod-eq_of_lt, arith}
use native.Mathlib.Nat.{mod_self, mod-add-mod}
use Rattle.std.proofs.lemmas.Bool.Decides.{nat_tests}
use Rattle.arbiter.specs.declared.turn.Turn.{Turn}
use Rattle.arbiter.specs.Granting.{grants}
use Rattle.arbiter.specs.Rounds.{after, after_last, last_granted, slot_grants, round_robin_grants}
use Rattle.arbiter.specs.Turns.{slot_passed, turn_after, grant_passed, first_of}

-- the core after that of slot s is that of slot s + 1
next_slot : (n s : ℕ) → 1 ≤ n → after n (s % n) ≡ (s + 1) % n
next_slot n s some =
    let below : s % n < n = mod-lt s some in
    let shift : (s % n + 1) % n ≡ (s + 1) % n = mod-add-mod s n 1 in
    let own : n % n ≡ 0 = mod_self n in
    let inner : s % n + 1 < n → (s % n + 1) % n ≡ s % n + 1 = λ h. mod-eq_of_lt h in
    grind (arith, nat_tests)

-- turns that pass with each slot: `granted` says what the core is answered whose slot it is
pub slots_in_order : (granted : ℕ → ℕ → ℕ → Option ℕ) (readies : List ℕ) (t : Turn) (s : ℕ) → t.core ≡ s % t.cores.count → grants (λ u ready. granted u.cores.count ready u.core) (λ u ready. slot_passed u) t readies ≡ slot_grants (granted t.cores.count) t.cores.count s readies
slots_in_order granted [] t s e = refl
slots_in_order granted (ready ∷ later) t s e =
    let n = t.cores.count in
    ap₂ ◌∷◌ (ap (granted n ready) e) (slots_in_order granted later (slot_passed t) (s + 1) (ap (after n) e ∙ next_slot n s t.cores.within.0))

-- turns that pass to the core after the last granted one
pub rounds_in_order : (readies : List ℕ) (t : Turn) (last : Option ℕ) → t.core ≡ after_last t.cores.count last → grants first_of (λ u ready. grant_passed u (first_of u ready)) t readies ≡ round_robin_grants t.cores.count last readies
rounds_in_order [] t last e = refl
rounds_in_order (ready ∷ later) t last e =
    let rest : (o : Option ℕ) → grants first_of (λ u r. grant_passed u (first_of u r)) (grant_passed t o) later ≡ round_robin_grants t.cores.count (last_granted last o) later =
    elim [
      | Some core ↦ rounds_in_order later (turn_after t core) (Some core) refl
      | None ↦ rounds_in_order later t last e
    ] in
    rw (← e) (ap (λ answers. first_of t ready ∷ answers) (rest (first_of t ready)))
