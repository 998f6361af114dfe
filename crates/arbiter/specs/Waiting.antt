-- What bounded waiting comes to, for any arbiter by its members.
use Rattle.std.specs.Prelude.{◌≡◌, ℕ, zero, suc, ◌+◌, ◌<◌, ◌≤◌, Bool, true, false, cond, ◌&&◌, List, length, Some, None, Option, ◌==◌, nat_lt, slice_index, slice_index_or}
use Rattle.arbiter.specs.Granting.{ready_at, grants}

-- a core is ready at each of these grants, whatever other cores are
abbrev pub StaysReady : ℕ → List ℕ → Type 0
StaysReady core readies = (k : ℕ) → k < length readies → ready_at (slice_index readies k) core ≡ true

-- one of the first answers, as many as the limit says, is this core
abbrev pub GrantedWithin : ℕ → ℕ → List (Option ℕ) → Type 0
GrantedWithin limit core answers = (k : ℕ) × (k < limit) × (slice_index_or answers k None ≡ Some core)

-- **A core that stays ready is granted within the wait.**
abbrev pub Fair : {A : Type 0} → (A → ℕ) → (A → ℕ) → (A → ℕ → Option ℕ) → (A → ℕ → A) → A → Type 0
Fair core_count wait picks moves a = (core : ℕ) (readies : List ℕ) → core < core_count a → StaysReady core readies → wait a ≤ length readies → GrantedWithin (wait a) core (grants picks moves a readies)

-- whether this core was granted
abbrev pub is_granted : Option ℕ → ℕ → Bool
is_granted (Some granted) core = granted == core
is_granted None core = false

-- grants of the same ready cores up to this core's own, at most `limit`: the count of them, from `count` on, and the
-- arbiter after them
abbrev pub grants_until : {A : Type 0} → (A → ℕ → Option ℕ) → (A → ℕ → A) → ℕ → ℕ → ℕ → ℕ → A → Option ℕ × A
grants_until picks moves ready core zero count a = (None, a)
grants_until picks moves ready core (suc limit) count a =
    cond (is_granted (picks a ready) core) (Some (count + 1), moves a ready) (grants_until picks moves ready core limit (count + 1) (moves a ready))

-- the same from the first grant on; none of them where this is no core, or is not ready
abbrev pub waited : {A : Type 0} → (A → ℕ) → (A → ℕ) → (A → ℕ → Option ℕ) → (A → ℕ → A) → A → ℕ → ℕ → Option ℕ × A
waited core_count wait picks moves a ready core =
    cond (nat_lt core (core_count a) && ready_at ready core) (grants_until picks moves ready core (wait a) 0 a) (None, a)

-- a number of grants within the wait, wherever the core is ready
abbrev pub InTime : {A : Type 0} → (A → ℕ) → (A → ℕ) → A → ℕ → ℕ → Option ℕ → Type 0
InTime core_count wait a ready core answer = core < core_count a → ready_at ready core ≡ true → (k : ℕ) × (answer ≡ Some k) × (k ≤ wait a)
