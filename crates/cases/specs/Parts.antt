-- Worked cases of arbiters and memories.
use Rattle.std.specs.Prelude.{◌≡◌, ℕ, ◌+◌, List, [], ◌∷◌, map, length, Some, None, Option}
use Rattle.model.specs.Numbers.{lines_check}
use Rattle.arbiter.specs.Rounds.{work_conserving_grants, fixed_slots_grants, round_robin_grants}
use Rattle.memory.specs.Packing.{unpacked, bitmap_of, non_zero}
use Rattle.cases.specs.Format.{Agree, Answer}
use Rattle.cases.specs.Format.Answer.{gives, refuses}

-- numbers of lines
abbrev pub lines_cases : List (ℕ × Answer ℕ)
lines_cases = (1, gives 1) ∷ (64, gives 64) ∷ (0, refuses 3 0) ∷ (65, refuses 3 0) ∷ (256, refuses 3 0) ∷ []

-- answers
abbrev pub no : Option ℕ
no = None

abbrev pub c0 : Option ℕ
c0 = Some 0

abbrev pub c1 : Option ℕ
c1 = Some 1

abbrev pub c2 : Option ℕ
c2 = Some 2

-- one grant for each set of ready cores among three: none, 0, 1, 0 and 1, 2, 0 and 2, 1 and 2, all
abbrev pub every_mask : (List ℕ → List (Option ℕ)) → List (List (Option ℕ))
every_mask rule = map (λ ready. rule (ready ∷ [])) (0 ∷ 1 ∷ 2 ∷ 3 ∷ 4 ∷ 5 ∷ 6 ∷ 7 ∷ [])

-- grant tables: a case, and what is answered to each of those
abbrev pub Table : {A : Type 0} → (A → List ℕ → List (Option ℕ)) → List (A × List (Option ℕ)) → Type 0
Table rule rows = map (λ row. every_mask (rule row.0)) rows ≡ map (λ row. map (λ answer. answer ∷ []) row.1) rows

-- by slot
abbrev pub work_conserving_table : List (ℕ × List (Option ℕ))
work_conserving_table =
    (0, no ∷ c0 ∷ c1 ∷ c0 ∷ c2 ∷ c0 ∷ c1 ∷ c0 ∷ [])
    ∷ (1, no ∷ c0 ∷ c1 ∷ c1 ∷ c2 ∷ c2 ∷ c1 ∷ c1 ∷ [])
    ∷ (2, no ∷ c0 ∷ c1 ∷ c0 ∷ c2 ∷ c2 ∷ c2 ∷ c2 ∷ [])
    ∷ (3, no ∷ c0 ∷ c1 ∷ c0 ∷ c2 ∷ c0 ∷ c1 ∷ c0 ∷ [])
    ∷ []

abbrev pub fixed_slots_table : List (ℕ × List (Option ℕ))
fixed_slots_table =
    (0, no ∷ c0 ∷ no ∷ c0 ∷ no ∷ c0 ∷ no ∷ c0 ∷ [])
    ∷ (1, no ∷ no ∷ c1 ∷ c1 ∷ no ∷ no ∷ c1 ∷ c1 ∷ [])
    ∷ (2, no ∷ no ∷ no ∷ no ∷ c2 ∷ c2 ∷ c2 ∷ c2 ∷ [])
    ∷ (3, no ∷ c0 ∷ no ∷ c0 ∷ no ∷ c0 ∷ no ∷ c0 ∷ [])
    ∷ []

-- by the last granted core
abbrev pub round_robin_table : List (Option ℕ × List (Option ℕ))
round_robin_table =
    (no, no ∷ c0 ∷ c1 ∷ c0 ∷ c2 ∷ c0 ∷ c1 ∷ c0 ∷ [])
    ∷ (c0, no ∷ c0 ∷ c1 ∷ c1 ∷ c2 ∷ c2 ∷ c1 ∷ c1 ∷ [])
    ∷ (c1, no ∷ c0 ∷ c1 ∷ c0 ∷ c2 ∷ c2 ∷ c2 ∷ c2 ∷ [])
    ∷ (c2, no ∷ c0 ∷ c1 ∷ c0 ∷ c2 ∷ c0 ∷ c1 ∷ c0 ∷ [])
    ∷ []

-- grants one after another from the making on, of three cores: the ready cores, and the answers
abbrev pub Runs : (List ℕ → List (Option ℕ)) → List (List ℕ × List (Option ℕ)) → Type 0
Runs rule runs = map (λ run. rule run.0) runs ≡ map (λ run. run.1) runs

-- all ready; a slot passes though nobody is ready; bits from 3 up count for nothing
abbrev pub work_conserving_runs : List (List ℕ × List (Option ℕ))
work_conserving_runs =
    (7 ∷ 7 ∷ 7 ∷ 7 ∷ [], c0 ∷ c1 ∷ c2 ∷ c0 ∷ [])
    ∷ (7 ∷ 0 ∷ 7 ∷ [], c0 ∷ no ∷ c2 ∷ [])
    ∷ (0xf8 ∷ 0xff ∷ [], no ∷ c1 ∷ [])
    ∷ []

abbrev pub fixed_slots_runs : List (List ℕ × List (Option ℕ))
fixed_slots_runs =
    (7 ∷ 7 ∷ 7 ∷ 7 ∷ [], c0 ∷ c1 ∷ c2 ∷ c0 ∷ [])
    ∷ (6 ∷ 0 ∷ 6 ∷ [], no ∷ no ∷ c2 ∷ [])
    ∷ (0xf8 ∷ 0xff ∷ [], no ∷ c1 ∷ [])
    ∷ []

-- granting none keeps the last
abbrev pub round_robin_runs : List (List ℕ × List (Option ℕ))
round_robin_runs =
    (7 ∷ 7 ∷ 7 ∷ 7 ∷ [], c0 ∷ c1 ∷ c2 ∷ c0 ∷ [])
    ∷ (7 ∷ 0 ∷ 7 ∷ [], c0 ∷ no ∷ c1 ∷ [])
    ∷ (5 ∷ 5 ∷ 1 ∷ 3 ∷ [], c0 ∷ c2 ∷ c0 ∷ c1 ∷ [])
    ∷ (0xf8 ∷ 0xff ∷ [], no ∷ c0 ∷ [])
    ∷ []

-- words, their bit map, and those that are kept
abbrev pub packed_cases : List (List ℕ × ℕ × List ℕ)
packed_cases =
    (0 ∷ 0 ∷ [], 0, [])
    ∷ (0 ∷ 7 ∷ 0 ∷ 5 ∷ [], 10, 7 ∷ 5 ∷ [])
    ∷ (4294967295 ∷ [], 1, 4294967295 ∷ [])
    ∷ []

-- **The worked cases of numbers of lines, arbiters and packed memories.**
pub record PartCases : Type 0 where
  pub of_lines : Agree lines_check lines_cases
  pub by_slot : Table (work_conserving_grants 3) work_conserving_table
  pub by_fixed_slot : Table (fixed_slots_grants 3) fixed_slots_table
  pub by_last : Table (round_robin_grants 3) round_robin_table
  pub of_slots : Runs (work_conserving_grants 3 0) work_conserving_runs
  pub of_fixed_slots : Runs (fixed_slots_grants 3 0) fixed_slots_runs
  pub of_rounds : Runs (round_robin_grants 3 None) round_robin_runs
  pub of_packing : map (λ c. (c.0, bitmap_of c.0, non_zero c.0)) packed_cases ≡ packed_cases
  pub of_unpacking : map (λ c. unpacked (length c.0) c.1 c.2) packed_cases ≡ map (λ c. c.0) packed_cases

abbrev pub part_count : ℕ
part_count =
    length lines_cases + length work_conserving_table + length fixed_slots_table + length round_robin_table + length work_conserving_runs + length fixed_slots_runs
    + length round_robin_runs + length packed_cases
