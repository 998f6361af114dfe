-- Going round N cores, core 0 following core N − 1; and the rules of the three arbiters, from their first grant on.
use Rattle.std.specs.Prelude.{ℕ, zero, suc, ◌+◌, ◌-◌, ◌%◌, cond, List, [], ◌∷◌, Some, None, Option, nat_lt}
use Rattle.arbiter.specs.Granting.{ready_at}

-- the core after this one: core 0 after the last
abbrev pub after : ℕ → ℕ → ℕ
after n core = cond (nat_lt core (n - 1)) (core + 1) 0

-- how many steps it is from one core to another, from below n
abbrev pub steps : ℕ → ℕ → ℕ → ℕ
steps n from core = (core + n - from) % n

-- the first ready core among k cores, this one first
abbrev pub scan : ℕ → ℕ → ℕ → ℕ → Option ℕ
scan n ready core zero = None
scan n ready core (suc k) = cond (ready_at ready core) (Some core) (scan n ready (after n core) k)

-- the first ready core of all n, this one first
abbrev pub first_ready : ℕ → ℕ → ℕ → Option ℕ
first_ready n ready core = scan n ready core n

-- this core, if it is ready
abbrev pub own_ready : ℕ → ℕ → Option ℕ
own_ready ready core = cond (ready_at ready core) (Some core) None

-- slot s belongs to core s mod n, and is answered as `granted` says of that core
abbrev pub slot_grants : (ℕ → ℕ → Option ℕ) → ℕ → ℕ → List ℕ → List (Option ℕ)
slot_grants granted n slot [] = []
slot_grants granted n slot (ready ∷ later) = granted ready (slot % n) ∷ slot_grants granted n (slot + 1) later

-- **Work-conserving slots**: where the slot's own core is not ready, the next ready core is granted.
abbrev pub work_conserving_grants : ℕ → ℕ → List ℕ → List (Option ℕ)
work_conserving_grants n = slot_grants (first_ready n) n

-- **Fixed slots**: only the slot's own core is granted.
abbrev pub fixed_slots_grants : ℕ → ℕ → List ℕ → List (Option ℕ)
fixed_slots_grants n = slot_grants own_ready n

-- the core after the last granted one; core 0 where none was granted yet
abbrev pub after_last : ℕ → Option ℕ → ℕ
after_last n (Some last) = after n last
after_last n None = 0

-- the last granted core, once this was answered
abbrev pub last_granted : Option ℕ → Option ℕ → Option ℕ
last_granted last (Some core) = Some core
last_granted last None = last

-- **Round robin**: the first ready core after the last granted one; granting none keeps the last.
abbrev pub round_robin_grants : ℕ → Option ℕ → List ℕ → List (Option ℕ)
round_robin_grants n last [] = []
round_robin_grants n last (ready ∷ later) =
    first_ready n ready (after_last n last) ∷ round_robin_grants n (last_granted last (first_ready n ready (after_last n last))) later
