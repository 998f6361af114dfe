-- The text that lists a program's input.
use Rattle.std.specs.Prelude.{ℕ, zero, suc, ◌+◌, ◌-◌, List, [], ◌∷◌, ◌++◌, drop, Ok, Err, codes, decimal, Result, slice_index_or}
use Rattle.refusal.specs.declared.Refusal.{Refusal}
use Rattle.refusal.specs.Refusals.{refused_text}
use Rattle.model.specs.Numbers.{kind_letter}
use Rattle.trace.specs.declared.Record.{Record}
use Rattle.trace.specs.declared.bundle.Span.{Span}
use Rattle.trace.specs.declared.bundle.Bundle.{Bundle}
use Rattle.trace.specs.Bundle.{no_trace}
use Rattle.trace.specs.Whole.{records_in}
use Rattle.input.specs.Inputs.{Plain, input_of}
use Rattle.listing.specs.declared.row.Row.{Row}

abbrev pub head : List ℕ
head = codes "core,index,gap,kind,line,word\n"

abbrev pub row_text : Row → List ℕ
row_text x =
    decimal x.core ++ (codes "," ++ (decimal x.index ++ (codes "," ++ (decimal x.access.gap ++ (codes ","
    ++ ((kind_letter x.access.kind ∷ []) ++ (codes "," ++ (decimal x.access.line ++ (codes "," ++ (decimal x.access.word ++ codes "\n"))))))))))

-- the rows of a core's records, from an index on
abbrev pub rows_text : ℕ → ℕ → List Record → List ℕ
rows_text core index [] = []
rows_text core index (r ∷ rs) = row_text (record { core = core; index = index; access = r }) ++ rows_text core (index + 1) rs

-- the records of a core's trace, or the first fault among them
abbrev pub read : List ℕ → Span → Result (List Record) Refusal
read bytes s = records_in bytes s.start s.end 0

-- the records of a trace that was checked
abbrev pub records_of : Result (List Record) Refusal → List Record
records_of (Ok rs) = rs
records_of (Err f) = []

abbrev pub trace_text : List ℕ → ℕ → Span → List ℕ
trace_text bytes core s = rows_text core 0 (records_of (read bytes s))

-- core, records and bytes
abbrev pub total_text : ℕ → Span → List ℕ
total_text core s = codes "," ++ (decimal core ++ (codes ":" ++ (decimal s.records ++ (codes ":" ++ decimal (s.end - s.start)))))

-- a text for each of the last `left` cores, of which `core` is the first
abbrev pub for_cores : (ℕ → List ℕ) → ℕ → ℕ → List ℕ
for_cores text zero core = []
for_cores text (suc left) core = text core ++ for_cores text left (core + 1)

-- the rows of every core, and a last row with the counts of every core
abbrev pub bundle_text : List ℕ → ℕ → Bundle → List ℕ
bundle_text bytes cores b =
    head ++ (for_cores (λ core. trace_text bytes core (slice_index_or b.spans core no_trace)) cores 0
    ++ (codes "total" ++ (for_cores (λ core. total_text core (slice_index_or b.spans core no_trace)) cores 0 ++ codes "\n")))

abbrev pub answered : List ℕ → Result (Plain × Bundle) Refusal → List ℕ
answered bytes (Ok (settings, b)) = bundle_text (drop 5 bytes) settings.cores b
answered bytes (Err f) = refused_text f ++ codes "\n"

-- what is printed for an input
abbrev pub listing_text : List ℕ → List ℕ
listing_text bytes = answered bytes (input_of bytes)
