-- Whole traces: the records of a part of the bytes, and records as bytes.
use Rattle.std.specs.Prelude.{◌≡◌, ℕ, zero, suc, ◌+◌, ◌-◌, cond, List, [], ◌∷◌, ◌++◌, length, take, drop, Some, None, Ok, Err, Option, Result, nat_le}
use Rattle.refusal.specs.declared.Reason.{Reason}
use Rattle.refusal.specs.declared.Refusal.{Refusal}
use Rattle.refusal.specs.Refusals.{refusal, and_then}
use Rattle.trace.specs.declared.Record.{Record}
use Rattle.trace.specs.declared.writer.Draft.{Draft}
use Rattle.trace.specs.Reading.{decode, size, map_of}
use Rattle.trace.specs.Writing.{encode, record_from, placed, filled}

-- the bytes from `at` up to `end`, as far as there are any
abbrev pub window : List ℕ → ℕ → ℕ → List ℕ
window bytes at end = take (end - at) (drop at bytes)

-- a record, and the place after it
abbrev pub ended : Result Record Reason → ℕ → Result (Option (Record × ℕ)) Reason
ended (Ok r) next = Ok (Some (r, next))
ended (Err why) next = Err why

-- what stands at a place of a trace that ends at `end`: nothing at the end, else a record or its fault
unfoldable pub read_at : List ℕ → ℕ → ℕ → ℕ → Result (Option (Record × ℕ)) Reason
read_at bytes at end before =
    cond (nat_le end at) (Ok None) (ended (decode (window bytes at end) before) (at + size (map_of (window bytes at end))))

-- one record and those after it
abbrev pub joined : Record → Result (List Record) Refusal → Result (List Record) Refusal
joined r (Ok rs) = Ok (r ∷ rs)
joined r (Err f) = Err f

-- what a read at a place leads to; `more` goes on from the next place and the line of the record
abbrev pub followed : ℕ → Result (Option (Record × ℕ)) Reason → (ℕ → ℕ → Result (List Record) Refusal) → Result (List Record) Refusal
followed at (Ok None) more = Ok []
followed at (Ok (Some (r, next))) more = joined r (more next r.line)
followed at (Err why) more = Err (refusal why at)

-- the records from `at` up to `end`, at most `turns` of them, or the first fault with its place
unfoldable pub records_from : ℕ → List ℕ → ℕ → ℕ → ℕ → Result (List Record) Refusal
records_from zero bytes at end before = Ok []
records_from (suc turns) bytes at end before =
    followed at (read_at bytes at end before) (λ next line. records_from turns bytes next end line)

-- all of them: a record has one byte at least
abbrev pub records_in : List ℕ → ℕ → ℕ → ℕ → Result (List Record) Refusal
records_in bytes at end before = records_from (end - at) bytes at end before

-- a trace that stands alone
abbrev pub trace_in : List ℕ → Result (List Record) Refusal
trace_in bytes = records_in bytes 0 (length bytes) 0

-- how many there are
abbrev pub count_of : Result (List Record) Refusal → Result ℕ Refusal
count_of (Ok rs) = Ok (length rs)
count_of (Err f) = Err f

-- records written one after another
abbrev pub encode_all : List Record → ℕ → List ℕ
encode_all [] before = []
encode_all (r ∷ rs) before = encode r before ++ encode_all rs r.line

-- **An accepted trace, written again from its records, has the same bytes**: one inside other bytes, and one alone.
abbrev pub Rewritten : List ℕ → ℕ → ℕ → Type 0
Rewritten bytes at end = (rs : List Record) → records_in bytes at end 0 ≡ Ok rs → encode_all rs 0 ≡ window bytes at end

abbrev pub SameBytes : List ℕ → Type 0
SameBytes bytes = (rs : List Record) → trace_in bytes ≡ Ok rs → encode_all rs 0 ≡ bytes

-- the bytes that a record was written to are a trace of that record alone
abbrev pub Holds : Result ℕ Refusal → Result Record Refusal → List ℕ → ℕ → ℕ → Type 0
Holds (Ok next) (Ok r) out at before = records_in out at next before ≡ Ok (r ∷ [])
Holds (Ok next) (Err f) out at before = ⊥
Holds (Err f) x out at before = Unit {0}

-- drafts written one after another, each at the place that the call before answered, lead from one buffer and place
-- to another
abbrev pub Written : List ℕ → ℕ → ℕ → List Draft → List ℕ → ℕ → Type 0
Written out at before [] out' next = (out' ≡ out) × (next ≡ at)
Written out at before (d ∷ ds) out' next =
    (n : ℕ) × (placed (record_from d) out at before ≡ Ok n) × Written (filled (record_from d) out at before) n d.line ds out' next

-- the records that they stand for
abbrev pub records_for : List Draft → Result (List Record) Refusal
records_for [] = Ok []
records_for (d ∷ ds) = and_then (record_from d) (λ r. joined r (records_for ds))

-- **Records written as a trace read back the same.**
abbrev pub ReadsBack : Type 0
ReadsBack = (out : List ℕ) (at before : ℕ) (ds : List Draft) (out' : List ℕ) (next : ℕ)
    → Written out at before ds out' next → records_in out' at next before ≡ records_for ds
