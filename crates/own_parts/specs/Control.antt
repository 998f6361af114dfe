-- An arbiter that serves a control core more often than the others.
use Rattle.std.specs.Prelude.{ℕ, ◌+◌, ◌*◌, ◌/◌, ◌%◌, cond, Option, ◌==◌}
use Rattle.std.proofs.Common.{arith}
use Rattle.arbiter.specs.Rounds.{after, own_ready, steps}
use Rattle.arbiter.specs.Turns.{after_is_core}
use Rattle.own_parts.specs.declared.control.ControlFirst.{ControlFirst}

-- the core of a slot: even slots are core 0's, odd slots go round all cores
abbrev pub owner : ℕ → ℕ
owner slot = cond (slot % 2 == 0) 0 (slot / 2)

-- 2N slots make a round
abbrev pub slots : ControlFirst → ℕ
slots a = 2 * a.cores.count

-- the slot's own core, if it is ready
abbrev pub owner_ready : ControlFirst → ℕ → Option ℕ
owner_ready a ready = own_ready ready (owner a.slot)

-- the next slot, slot 0 following the last of the round
abbrev pub slot_passed : ControlFirst → ControlFirst
slot_passed a = record {
  cores = a.cores;
  slot = after (slots a) a.slot;
  within = after_is_core (slots a) a.slot (omega (arith, a.cores.within.0));
}

-- how many slots it is to the odd slot of a core
abbrev pub slots_to : ControlFirst → ℕ → ℕ
slots_to a core = steps (slots a) a.slot (2 * core + 1)
