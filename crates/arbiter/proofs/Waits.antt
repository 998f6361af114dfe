-- A core that stays ready is granted within the wait.
use Rattle.std.proofs.Common.{◌≡◌, ℕ, zero, suc, ◌≢◌, ◌+◌, ◌-◌, ◌<◌, ◌≤◌, false, ◌⊎◌, List, [], ◌∷◌, length, Some, None, Option, refl, ap, inl, inr, arith}
use Rattle.std.proofs.lemmas.Bool.{cases_eq, eq-eqb, ne_eqb}
use Rattle.arbiter.specs.Granting.{BoundedWaiting, grants}
use Rattle.arbiter.specs.Waiting.{StaysReady, GrantedWithin, Fair, grants_until, is_granted}

granted_or_not : (o : Option ℕ) (core : ℕ) → (o ≡ Some core) ⊎ (o ≢ Some core)
granted_or_not (Some g) core =
    elim (cases_eq g core) [
      | inl same ↦ inl (ap Some same)
      | inr ne ↦ inr (λ e. ne cc)
    ]
granted_or_not None core = inr (λ e. cc)

-- ---- grants until a core's own

not_granted : (o : Option ℕ) (core : ℕ) → (o ≢ Some core) → is_granted o core ≡ false
not_granted (Some g) core ne = ne_eqb g core (λ same. ne (ap Some same))
not_granted None core ne = refl

module _ {A : Type 0} (picks : A → ℕ → Option ℕ) (moves : A → ℕ → A) (ready core : ℕ) where
  pub until_granted : (all passed : ℕ) (a : A) → passed < all → picks a ready ≡ Some core → grants_until picks moves ready core (all - passed) passed a ≡ (Some (passed + 1), moves a ready)
  until_granted all passed a h e = let one : all - passed ≡ suc (all - (passed + 1)) = omega arith in rw (one, e, eq-eqb core core refl)

  pub until_passed : (all passed : ℕ) (a : A) → passed < all → (picks a ready ≢ Some core) → grants_until picks moves ready core (all - passed) passed a ≡ grants_until picks moves ready core (all - (passed + 1)) (passed + 1) (moves a ready)
  until_passed all passed a h ne = let one : all - passed ≡ suc (all - (passed + 1)) = omega arith in rw (one, not_granted (picks a ready) core ne)

-- ---- the theorem

module _ {A : Type 0} {core_count wait : A → ℕ} {distance : A → ℕ → ℕ} {picks : A → ℕ → Option ℕ} {moves : A → ℕ → A} (law : BoundedWaiting core_count wait distance picks moves) where
  within : (d : ℕ) (readies : List ℕ) (a : A) (core : ℕ) → core < core_count a → StaysReady core readies → d ≤ length readies → distance a core < d → GrantedWithin d core (grants picks moves a readies)
  within zero readies a core l stays long near = absurd (omega arith)
  within (suc d) [] a core l stays long near = absurd (omega arith)
  within (suc d) (ready ∷ later) a core l stays long near =
      elim (granted_or_not (picks a ready) core) [
        | inl granted ↦ (0, omega arith, granted)
        | inr passed ↦
            let closer = law.passed_over_is_closer a ready core l (stays 0 (omega arith)) passed in
            let rest = within d later (moves a ready) core (rw (law.cores_stay a ready) l) (λ k h. stays (suc k) (omega arith)) (omega arith) (omega arith) in
            (suc rest.0, omega (arith, rest.1), rest.2)
      ]

  pub fairly : (a : A) → Fair core_count wait picks moves a
  fairly a core readies l stays long = within (wait a) readies a core l stays long (law.distance_below_wait a core l)
