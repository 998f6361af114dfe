-- The granting law of the arbiter that serves the control core first.
use Rattle.std.specs.Prelude.{◌≡◌, ℕ, ◌+◌, ◌*◌, ◌<◌, cond, Some, None, refl}
use Rattle.std.proofs.Common.{sym, ap, ◌∙◌, arith}
use Rattle.std.proofs.lemmas.Bool.Decides.{nat_tests}
use Rattle.arbiter.specs.Granting.{BoundedWaiting}
use Rattle.arbiter.specs.Rounds.{own_ready}
use Rattle.arbiter.specs.Masks.{ready_by_cores}
use Rattle.arbiter.specs.Scans.{own_found, own_here, steps_after, steps_below}
use Rattle.own_parts.specs.declared.control.ControlFirst.{ControlFirst}
use Rattle.own_parts.specs.Control.{owner, owner_ready, slot_passed, slots, slots_to}

-- a slot of the round belongs to one of the cores
owner_is_core : (n slot : ℕ) → slot < 2 * n → owner slot < n
owner_is_core n slot h = grind (arith, nat_tests)

-- and an odd one to the core it is named after
owner_of_odd : (core slot : ℕ) → slot ≡ 2 * core + 1 → owner slot ≡ core
owner_of_odd core slot e = grind (arith, nat_tests)

pub law : BoundedWaiting (λ (a : ControlFirst). a.cores.count) slots slots_to owner_ready (λ a ready. slot_passed a)
law = record {
  cores_in_range = λ a. a.cores.within;
  wait_in_range = λ a. (omega (arith, a.cores.within.0), omega (arith, a.cores.within.1));
  cores_stay = λ a ready. refl;
  wait_stays = λ a ready. refl;
  answer_by_cores = λ a ready. ap (λ b. cond b (Some (owner a.slot)) None) (ready_by_cores a.cores.count ready (owner a.slot) (owner_is_core a.cores.count a.slot a.within));
  state_by_cores = λ a ready. refl;
  granted_is_core = λ a ready core e. rw (own_found ready (owner a.slot) core e).0 (owner_is_core a.cores.count a.slot a.within);
  granted_is_ready = λ a ready core e. (own_found ready (owner a.slot) core e).1;
  passed_over_is_closer = λ a ready core l r ne.
      let apart : 2 * core + 1 ≡ a.slot → ⊥ = λ e. ne (ap (own_ready ready) (owner_of_odd core a.slot (sym e)) ∙ own_here ready core r) in
      omega (arith, steps_after (slots a) a.slot (2 * core + 1) a.within (omega arith) apart);
  distance_below_wait = λ a core l. steps_below (slots a) a.slot (2 * core + 1) a.within (omega arith);
}
