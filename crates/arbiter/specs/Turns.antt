-- The turn that goes round the cores: who is ready first, how it passes, and what a rule of turns keeps.
use Rattle.std.specs.Prelude.{◌≡◌, ℕ, ◌%◌, ◌^◌, ◌<◌, ◌≤◌, true, List, Some, None, Option, ◌≢◌}
use Rattle.std.proofs.Common.{arith}
use Rattle.std.proofs.lemmas.Bool.Decides.{nat_tests}
use Rattle.arbiter.specs.declared.turn.Turn.{Turn}
use Rattle.arbiter.specs.Granting.{InOrder, ready_at}
use Rattle.arbiter.specs.Rounds.{after, first_ready, own_ready, steps}

pub after_is_core : (n core : ℕ) → 1 ≤ n → after n core < n
after_is_core n core some = grind (arith, nat_tests)

-- the turn of the core after this one
abbrev pub turn_after : Turn → ℕ → Turn
turn_after t core = record { cores = t.cores; core = after t.cores.count core; within = after_is_core t.cores.count core t.cores.within.0 }

-- a slot passes to the next core
abbrev pub slot_passed : Turn → Turn
slot_passed t = turn_after t t.core

-- .. whoever was picked
abbrev pub slot_passes : Turn → Option ℕ → Turn
slot_passes t picked = slot_passed t

-- the turn passes to the core after the granted one, or stays
abbrev pub grant_passed : Turn → Option ℕ → Turn
grant_passed t (Some core) = turn_after t core
grant_passed t None = t

-- the first ready core, the turn's own first
abbrev pub first_of : Turn → ℕ → Option ℕ
first_of t ready = first_ready t.cores.count ready t.core

-- the turn's own core, if it is ready
abbrev pub own_of : Turn → ℕ → Option ℕ
own_of t ready = own_ready ready t.core

-- how many turns it is to a core's own
abbrev pub turns_to : Turn → ℕ → ℕ
turns_to t core = steps t.cores.count t.core core

-- a grant that answers o takes turn t to turn u: N stays; a granted core is one of the N, and ready; a ready core that is not
-- granted is fewer turns from its own
pub record Granted (t : Turn) (ready : ℕ) (o : Option ℕ) (u : Turn) : Type 0 where
  pub same_cores : u.cores ≡ t.cores
  pub is_core : (g : ℕ) → o ≡ Some g → g < t.cores.count
  pub is_ready : (g : ℕ) → o ≡ Some g → ready_at ready g ≡ true
  pub closer : (core : ℕ) → core < t.cores.count → ready_at ready core ≡ true → (o ≢ Some core) → turns_to u core < turns_to t core

-- what a rule keeps that picks a core at each turn and then passes the turn
pub record TurnLaw (picks : Turn → ℕ → Option ℕ) (passes : Turn → Option ℕ → Turn) (order : ℕ → List ℕ → List (Option ℕ)) : Type 0 where
  -- bits from N up count for nothing
  pub picks_by_cores : (t : Turn) (ready : ℕ) → picks t (ready % 2 ^ t.cores.count) ≡ picks t ready
  -- each grant does to the turn what bounded waiting asks
  pub granted : (t : Turn) (ready : ℕ) → Granted t ready (picks t ready) (passes t (picks t ready))
  -- from core 0's turn on the answers are in the rule's order
  pub in_order : (t : Turn) → t.core ≡ 0 → InOrder picks (λ u ready. passes u (picks u ready)) t (order t.cores.count)
