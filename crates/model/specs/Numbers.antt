-- The numbers and letters of the model's words, and what is refused.
use Rattle.std.specs.Prelude.{ℕ, cond, ◌||◌, Ok, Err, Result, ◌==◌, nat_lt}
use Rattle.refusal.specs.declared.Reason.{Reason}
use Rattle.refusal.specs.declared.Reason.TheVariants.{CoreCount, LineCount, SettingRange, CoreRange, KindRange, LineRange}
use Rattle.refusal.specs.declared.Refusal.{Refusal}
use Rattle.refusal.specs.Refusals.{refusal}
use Rattle.model.specs.declared.Kind.{Kind}
use Rattle.model.specs.declared.Kind.TheVariants.{Load, Store, Replace}
use Rattle.model.specs.declared.Path.{Path}
use Rattle.model.specs.declared.Path.TheVariants.{ThroughMemory, Direct}
use Rattle.model.specs.declared.ArbiterChoice.{ArbiterChoice}
use Rattle.model.specs.declared.ArbiterChoice.TheVariants.{WorkConserving, FixedSlots, RoundRobin}
use Rattle.model.specs.declared.counts.Count.{Count}
use Rattle.model.specs.declared.counts.Ordinal.{Ordinal}

abbrev pub kind_number : Kind → ℕ
kind_number Load = 0
kind_number Store = 1
kind_number Replace = 2

-- its letter in rows: L, S or R
abbrev pub kind_letter : Kind → ℕ
kind_letter Load = 76
kind_letter Store = 83
kind_letter Replace = 82

-- the kind of a number up to 2
abbrev pub kind_of : ℕ → Kind
kind_of n = cond (n == 0) Load (cond (n == 1) Store Replace)

abbrev pub kind_check : ℕ → Result Kind Refusal
kind_check n = cond (nat_lt 2 n) (Err (refusal KindRange 0)) (Ok (kind_of n))

abbrev pub path_number : Path → ℕ
path_number ThroughMemory = 0
path_number Direct = 1

abbrev pub path_check : ℕ → Result Path Refusal
path_check n = cond (n == 0) (Ok ThroughMemory) (cond (n == 1) (Ok Direct) (Err (refusal SettingRange 0)))

abbrev pub arbiter_number : ArbiterChoice → ℕ
arbiter_number WorkConserving = 0
arbiter_number FixedSlots = 1
arbiter_number RoundRobin = 2

abbrev pub arbiter_check : ℕ → Result ArbiterChoice Refusal
arbiter_check n =
    cond (n == 0) (Ok WorkConserving) (cond (n == 1) (Ok FixedSlots) (cond (n == 2) (Ok RoundRobin) (Err (refusal SettingRange 0))))

-- a number of things, 1 to `max`
abbrev pub count_check : ℕ → Reason → ℕ → Result ℕ Refusal
count_check max why n = cond (nat_lt n 1 || nat_lt max n) (Err (refusal why 0)) (Ok n)

abbrev pub cores_check : ℕ → Result ℕ Refusal
cores_check = count_check 8 CoreCount

abbrev pub lines_check : ℕ → Result ℕ Refusal
lines_check = count_check 64 LineCount

-- a checked number of things as a number
abbrev pub counted : (max : ℕ) → Result (Count max) Refusal → Result ℕ Refusal
counted max (Ok c) = Ok c.count
counted max (Err f) = Err f

-- one of n things, numbered from 0
abbrev pub ordinal_check : ℕ → Reason → ℕ → Result ℕ Refusal
ordinal_check n why k = cond (nat_lt k n) (Ok k) (Err (refusal why 0))

-- a core of n cores
abbrev pub core_check : ℕ → ℕ → Result ℕ Refusal
core_check n = ordinal_check n CoreRange

-- a line of n lines
abbrev pub line_check : ℕ → ℕ → Result ℕ Refusal
line_check n = ordinal_check n LineRange

-- a checked thing as a number
abbrev pub numbered : (max : ℕ) → Result (Ordinal max) Refusal → Result ℕ Refusal
numbered max (Ok o) = Ok o.number
numbered max (Err f) = Err f
