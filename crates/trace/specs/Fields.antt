-- A record's bytes by those of its fields, each of which may be absent. The writer's private steps are stated by it; no promise of
-- a public call is, since it is proved to come to `encode`.
use Rattle.std.specs.Prelude.{ℕ, List, [], ◌∷◌, ◌++◌, is_some, unwrap_or, Option}
use Rattle.trace.specs.Writing.{map_by}

abbrev pub map_of_fields : Option (List ℕ) → Option (List ℕ) → Option (List ℕ) → Option (List ℕ) → ℕ
map_of_fields gap line word kind = map_by (is_some gap) (is_some line) (is_some word) (is_some kind)

abbrev pub with_fields : Option (List ℕ) → Option (List ℕ) → Option (List ℕ) → Option (List ℕ) → List ℕ
with_fields gap line word kind =
    map_of_fields gap line word kind ∷ (unwrap_or gap [] ++ (unwrap_or line [] ++ (unwrap_or word [] ++ unwrap_or kind [])))
