-- What an arbiter by turns answers and leaves, and the rules of the three arbiters from the making on.
use Rattle.std.specs.Prelude.{ℕ, None, Option}
use Rattle.arbiter.specs.declared.by_turn.ByTurn.{ByTurn}
use Rattle.arbiter.specs.declared.fixed_slots.SlotOnly.{SlotOnly}
use Rattle.arbiter.specs.declared.round_robin.FirstAfterGranted.{FirstAfterGranted}
use Rattle.arbiter.specs.declared.turn.Turn.{Turn}
use Rattle.arbiter.specs.declared.work_conserving.FirstFromSlot.{FirstFromSlot}
use Rattle.arbiter.specs.Granting.{InOrder}
use Rattle.arbiter.specs.Rounds.{work_conserving_grants, fixed_slots_grants, round_robin_grants}
use Rattle.arbiter.specs.Turns.{first_of, own_of, slot_passes, grant_passed}

-- the core that is picked at the arbiter's turn
abbrev pub turn_picks : {R : Type 0} → (Turn → ℕ → Option ℕ) → ByTurn R → ℕ → Option ℕ
turn_picks picks a ready = picks a.turn ready

-- the turn passed by what was picked
abbrev pub turn_moves : {R : Type 0} → (Turn → ℕ → Option ℕ) → (Turn → Option ℕ → Turn) → ByTurn R → ℕ → ByTurn R
turn_moves picks passes a ready = record a { turn = passes a.turn (picks a.turn ready) }

-- **The rules.** Whatever cores are ready at the grants, the answers are those of slots 0, 1, 2 and so on ..
abbrev pub WorkConservingRule : ByTurn FirstFromSlot → Type 0
WorkConservingRule a = InOrder (turn_picks first_of) (turn_moves first_of slot_passes) a (work_conserving_grants a.turn.cores.count 0)

abbrev pub FixedSlotsRule : ByTurn SlotOnly → Type 0
FixedSlotsRule a = InOrder (turn_picks own_of) (turn_moves own_of slot_passes) a (fixed_slots_grants a.turn.cores.count 0)

-- .. or of rounds that begin with core 0
abbrev pub RoundRobinRule : ByTurn FirstAfterGranted → Type 0
RoundRobinRule a = InOrder (turn_picks first_of) (turn_moves first_of grant_passed) a (round_robin_grants a.turn.cores.count None)
