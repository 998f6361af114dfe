-- A trace record as bytes, and what writing one into a buffer answers and leaves.
use Rattle.std.specs.Prelude.{◌≡◌, ℕ, zero, suc, ◌+◌, ◌-◌, ◌/◌, ◌%◌, Bool, false, cond, not, ◌&&◌, List, [], ◌∷◌, ◌++◌, length, take, drop, Ok, Err, Result, ◌==◌, nat_lt}
use Rattle.refusal.specs.declared.Reason.TheVariants.{RedundantField, NoSpace}
use Rattle.refusal.specs.declared.Refusal.{Refusal}
use Rattle.refusal.specs.Refusals.{refusal, and_then}
use Rattle.model.specs.Numbers.{kind_number, kind_check}
use Rattle.trace.specs.declared.Record.{Record}
use Rattle.trace.specs.declared.writer.Draft.{Draft}

abbrev pub differs : ℕ → ℕ → Bool
differs a b = not (a == b)

-- a number in so many bytes, high byte first
abbrev pub bytes_of : ℕ → ℕ → List ℕ
bytes_of zero n = []
bytes_of (suc zero) n = n ∷ []
bytes_of (suc (suc k)) n = bytes_of (suc k) (n / 256) ++ (n % 256 ∷ [])

-- a map byte by its four bits
abbrev pub map_by : Bool → Bool → Bool → Bool → ℕ
map_by g l w k = cond g 1 0 + cond l 2 0 + cond w 4 0 + cond k 8 0

-- a field if it is present
abbrev pub part : Bool → ℕ → ℕ → List ℕ
part present width n = cond present (bytes_of width n) []

-- a record with the fields that are present
abbrev pub laid_out : Bool → Bool → Bool → Bool → Record → List ℕ
laid_out g l w k r =
    map_by g l w k ∷ (part g 2 r.gap ++ (part l 1 r.line ++ (part w 4 r.word ++ part k 1 (kind_number r.kind))))

-- a field is present unless it says what its absence says; `before` is the line of the record before
unfoldable pub encode : Record → ℕ → List ℕ
encode r before =
    laid_out (differs r.gap 0) (differs r.line before) (differs r.word 0) (differs (kind_number r.kind) 0) r

-- a buffer with bytes put at a place, and every other byte as it was
unfoldable pub put : List ℕ → ℕ → List ℕ → List ℕ
put out at bytes = take at out ++ (bytes ++ drop (at + length bytes) out)

-- a word without a store
abbrev pub stray_word : Record → Bool
stray_word r = differs r.word 0 && differs (kind_number r.kind) 1

-- a record that can be written
abbrev pub Writable : Record → Type 0
Writable r = stray_word r ≡ false

abbrev pub unless_stray : Record → Result Record Refusal
unless_stray r = cond (stray_word r) (Err (refusal RedundantField 0)) (Ok r)

-- the record that a draft stands for
abbrev pub record_from : Draft → Result Record Refusal
record_from d = and_then (kind_check d.kind) (λ k. unless_stray (record { gap = d.gap; line = d.line; word = d.word; kind = k }))

-- the next free place, where the record fits the free space
abbrev pub placed : Result Record Refusal → List ℕ → ℕ → ℕ → Result ℕ Refusal
placed (Ok r) out at before =
    cond (nat_lt (length out - at) (length (encode r before))) (Err (refusal NoSpace 0)) (Ok (at + length (encode r before)))
placed (Err f) out at before = Err f

-- the buffer after it
abbrev pub filled : Result Record Refusal → List ℕ → ℕ → ℕ → List ℕ
filled (Ok r) out at before = cond (nat_lt (length out - at) (length (encode r before))) out (put out at (encode r before))
filled (Err f) out at before = out
