-- The granting law of whatever keeps a turn, from what one grant does to the turn; and what the three rules of turns keep.
use Rattle.std.specs.Prelude.{◌≡◌, ℕ, ◌%◌, ◌^◌, ◌<◌, true, List, Some, None, Option, ◌≢◌, refl}
use Rattle.std.proofs.Common.{sym, ap, ◌∙◌, arith}
use native.Mathlib.Nat.{zero-mod}
use Rattle.std.proofs.lemmas.Bool.{both_ways}
use Rattle.arbiter.specs.declared.by_turn.ByTurn.{ByTurn}
use Rattle.arbiter.specs.declared.turn.Turn.{Turn}
use Rattle.arbiter.specs.Granting.{BoundedWaiting, ready_at}
use Rattle.arbiter.specs.Masks.{first_by_cores, own_by_cores}
use Rattle.arbiter.specs.Orders.{rounds_in_order, slots_in_order}
use Rattle.arbiter.specs.Rounds.{first_ready, own_ready, fixed_slots_grants, round_robin_grants, work_conserving_grants}
use Rattle.arbiter.specs.Scans.{Found, scan_found, scan_none, scan_here, own_found, own_here, steps_below, steps_after, nearer_past}
use Rattle.arbiter.specs.Shipped.{turn_moves, turn_picks}
use Rattle.arbiter.specs.Turns.{Granted, TurnLaw, first_of, own_of, slot_passed, slot_passes, grant_passed, turns_to}

-- whatever keeps a turn, beside other things it may keep
module _ {A : Type 0} (turn : A → Turn) (picks : A → ℕ → Option ℕ) (moves : A → ℕ → A) where
  pub bounded :
      ((a : A) (ready : ℕ) → Granted (turn a) ready (picks a ready) (turn (moves a ready)))
      → ((a : A) (ready : ℕ) → picks a (ready % 2 ^ (turn a).cores.count) ≡ picks a ready)
      → ((a : A) (ready : ℕ) → moves a (ready % 2 ^ (turn a).cores.count) ≡ moves a ready)
      → BoundedWaiting (λ a. (turn a).cores.count) (λ a. (turn a).cores.count) (λ a. turns_to (turn a)) picks moves
  bounded granted answer state = record {
    cores_in_range = λ a. (turn a).cores.within;
    wait_in_range = λ a. ((turn a).cores.within.0, omega (arith, (turn a).cores.within.1));
    cores_stay = λ a ready. ap (λ c. c.count) (granted a ready).same_cores;
    wait_stays = λ a ready. ap (λ c. c.count) (granted a ready).same_cores;
    answer_by_cores = answer;
    state_by_cores = state;
    granted_is_core = λ a ready. (granted a ready).is_core;
    granted_is_ready = λ a ready. (granted a ready).is_ready;
    passed_over_is_closer = λ a ready. (granted a ready).closer;
    distance_below_wait = λ a core l. steps_below (turn a).cores.count (turn a).core core (turn a).within l;
  }

-- an arbiter by a rule of turns
pub bounded_by : {R : Type 0} {picks : Turn → ℕ → Option ℕ} {passes : Turn → Option ℕ → Turn} {order : ℕ → List ℕ → List (Option ℕ)}
    → TurnLaw picks passes order
    → BoundedWaiting {A = ByTurn R} (λ a. a.turn.cores.count) (λ a. a.turn.cores.count) (λ a. turns_to a.turn) (turn_picks picks) (turn_moves picks passes)
bounded_by {R} {picks} {passes} law =
    bounded (λ a. a.turn) (turn_picks picks) (turn_moves picks passes) (λ a. law.granted a.turn)
    (λ a. law.picks_by_cores a.turn) (λ a ready. ap (λ o. record a { turn = passes a.turn o }) (law.picks_by_cores a.turn ready))

-- the first ready core as what a scan found
first_found : (t : Turn) (ready core : ℕ) → first_of t ready ≡ Some core → Found t.cores.count ready t.core core
first_found t ready core = scan_found t.cores.count ready t.cores.count t.core core t.within

-- a slot that passes on: every core but its own comes a turn nearer
slot_closer : (t : Turn) (core : ℕ) → core < t.cores.count → (core ≢ t.core) → turns_to (slot_passed t) core < turns_to t core
slot_closer t core l ne = omega (arith, steps_after t.cores.count t.core core t.within l ne)

-- past the granted core, or where none is ready, every other ready core comes nearer
grant_closer : (t : Turn) (ready core : ℕ) (o : Option ℕ) → first_of t ready ≡ o → core < t.cores.count → ready_at ready core ≡ true → (o ≢ Some core) → turns_to (grant_passed t o) core < turns_to t core
grant_closer t ready core (Some g) e l r ne = nearer_past t.cores.count ready t.core g core t.within (first_found t ready g e) l r (λ same. ne (ap Some same))
grant_closer t ready core None e l r ne =
    let n = t.cores.count in
    absurd (both_ways _ (scan_none n ready n t.core core t.within l e (steps_below n t.core core t.within l)) r)

-- ---- what one grant by each of the three does to the turn, and what each rule keeps

pub work_conserving_granted : (t : Turn) (ready : ℕ) → Granted t ready (first_of t ready) (slot_passed t)
work_conserving_granted t ready = record {
  same_cores = refl;
  is_core = λ g e. (first_found t ready g e).is_core;
  is_ready = λ g e. (first_found t ready g e).is_ready;
  closer = λ core l r ne. slot_closer t core l (λ same. ne (rw same (scan_here t.cores.count ready t.core t.cores.count (omega (arith, t.within)) (rw same at r))));
}

pub work_conserving_law : TurnLaw first_of slot_passes (λ n. work_conserving_grants n 0)
work_conserving_law = record {
  picks_by_cores = first_by_cores;
  granted = work_conserving_granted;
  in_order = λ t first readies. slots_in_order first_ready readies t 0 (first ∙ sym (zero-mod t.cores.count));
}

pub fixed_slots_granted : (t : Turn) (ready : ℕ) → Granted t ready (own_of t ready) (slot_passed t)
fixed_slots_granted t ready = record {
  same_cores = refl;
  is_core = λ g e. rw (own_found ready t.core g e).0 t.within;
  is_ready = λ g e. (own_found ready t.core g e).1;
  closer = λ core l r ne. slot_closer t core l (λ same. ne (rw same (own_here ready t.core (rw same at r))));
}

pub fixed_slots_law : TurnLaw own_of slot_passes (λ n. fixed_slots_grants n 0)
fixed_slots_law = record {
  picks_by_cores = own_by_cores;
  granted = fixed_slots_granted;
  in_order = λ t first readies. slots_in_order (λ n. own_ready) readies t 0 (first ∙ sym (zero-mod t.cores.count));
}

cores_stay : (t : Turn) (o : Option ℕ) → (grant_passed t o).cores ≡ t.cores
cores_stay t (Some core) = refl
cores_stay t None = refl

pub round_robin_granted : (t : Turn) (ready : ℕ) → Granted t ready (first_of t ready) (grant_passed t (first_of t ready))
round_robin_granted t ready = record {
  same_cores = cores_stay t (first_of t ready);
  is_core = λ g e. (first_found t ready g e).is_core;
  is_ready = λ g e. (first_found t ready g e).is_ready;
  closer = λ core. grant_closer t ready core (first_of t ready) refl;
}

pub round_robin_law : TurnLaw first_of grant_passed (λ n. round_robin_grants n None)
round_robin_law = record {
  picks_by_cores = first_by_cores;
  granted = round_robin_granted;
  in_order = λ t first readies. rounds_in_order readies t None first;
}
