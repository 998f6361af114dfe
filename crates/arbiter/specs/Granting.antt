-- What a grant is, and what every arbiter is held to. The five members of an arbiter are told at the trait.
use Rattle.std.specs.Prelude.{◌≡◌, ℕ, ◌%◌, ◌^◌, ◌<◌, ◌≤◌, Bool, true, List, [], ◌∷◌, Some, Option, ◌≢◌}
use Rattle.model.specs.Bits.{bit_at}

-- whether a core is ready: its bit stands
abbrev pub ready_at : ℕ → ℕ → Bool
ready_at ready core = bit_at ready core

-- **The granting law: bounded waiting.** Each ready core is a distance below W from its grant, and comes closer whenever
-- it is passed over, so it is passed over less than W times in a row.
pub record BoundedWaiting {A : Type 0} (core_count wait : A → ℕ) (distance : A → ℕ → ℕ) (picks : A → ℕ → Option ℕ) (moves : A → ℕ → A) : Type 0 where
  -- N is 1 to 8 and W is 1 to 64
  pub cores_in_range : (a : A) → (1 ≤ core_count a) × (core_count a ≤ 8)
  pub wait_in_range : (a : A) → (1 ≤ wait a) × (wait a ≤ 64)
  -- N and W never change
  pub cores_stay : (a : A) (ready : ℕ) → core_count (moves a ready) ≡ core_count a
  pub wait_stays : (a : A) (ready : ℕ) → wait (moves a ready) ≡ wait a
  -- bits from N up count for nothing
  pub answer_by_cores : (a : A) (ready : ℕ) → picks a (ready % 2 ^ core_count a) ≡ picks a ready
  pub state_by_cores : (a : A) (ready : ℕ) → moves a (ready % 2 ^ core_count a) ≡ moves a ready
  -- a granted core is one of the N, and ready
  pub granted_is_core : (a : A) (ready core : ℕ) → picks a ready ≡ Some core → core < core_count a
  pub granted_is_ready : (a : A) (ready core : ℕ) → picks a ready ≡ Some core → ready_at ready core ≡ true
  -- a ready core that is not granted has a smaller distance afterwards
  pub passed_over_is_closer : (a : A) (ready core : ℕ) → core < core_count a → ready_at ready core ≡ true → (picks a ready ≢ Some core) → distance (moves a ready) core < distance a core
  -- distances are 0 to W − 1
  pub distance_below_wait : (a : A) (core : ℕ) → core < core_count a → distance a core < wait a

-- what grants answer one after another, each shown ready cores of its own
abbrev pub grants : {A : Type 0} → (A → ℕ → Option ℕ) → (A → ℕ → A) → A → List ℕ → List (Option ℕ)
grants picks moves a [] = []
grants picks moves a (ready ∷ later) = picks a ready ∷ grants picks moves (moves a ready) later

-- from here on, whatever cores are ready at the grants, the answers are in this order
abbrev pub InOrder : {A : Type 0} → (A → ℕ → Option ℕ) → (A → ℕ → A) → A → (List ℕ → List (Option ℕ)) → Type 0
InOrder picks moves a order = (readies : List ℕ) → grants picks moves a readies ≡ order readies
