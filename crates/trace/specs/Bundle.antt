-- A bundle: one map byte, then for each core whose bit stands a length of two bytes and a trace.
use Rattle.std.specs.Prelude.{◌≡◌, ℕ, zero, suc, ◌+◌, ◌/◌, ◌^◌, cond, List, length, replicate, Ok, Err, Result, ◌==◌, nat_lt, slice_index_or, slice_set}
use Rattle.refusal.specs.declared.Reason.TheVariants.{UnknownMapBits, CutShort, TrailingBytes}
use Rattle.refusal.specs.declared.Refusal.{Refusal}
use Rattle.refusal.specs.Refusals.{refusal, and_then}
use Rattle.trace.specs.declared.Record.{Record}
use Rattle.trace.specs.declared.bundle.Span.{Span}
use Rattle.trace.specs.declared.bundle.Bundle.{Bundle}
use Rattle.model.specs.Bits.{bit}
use Rattle.trace.specs.Reading.{big_endian, map_of}
use Rattle.trace.specs.Writing.{differs}
use Rattle.trace.specs.Whole.{window, records_in, encode_all}

abbrev pub span : ℕ → ℕ → ℕ → Span
span from to count = record { start = from; end = to; records = count }

-- a core that has no trace
abbrev pub no_trace : Span
no_trace = span 0 0 0

-- the trace whose length field stands at a place; a length that is cut short or too long is a fault of its field
unfoldable pub span_at : List ℕ → ℕ → Result Span Refusal
span_at bytes at =
    let start : ℕ = at + 2 in
    let end : ℕ = start + big_endian 2 bytes at in
    cond (nat_lt (length bytes) start) (Err (refusal CutShort at))
    (cond (nat_lt (length bytes) end) (Err (refusal CutShort at))
    (and_then (records_in bytes start end 0) (λ rs. Ok (span start end (length rs)))))

-- the traces of the last `left` cores, of which `core` is the first, from a place on; then the bytes end
unfoldable pub spans_from : ℕ → List ℕ → ℕ → ℕ → List Span → Result Bundle Refusal
spans_from zero bytes core at spans = cond (nat_lt at (length bytes)) (Err (refusal TrailingBytes at)) (Ok (record { spans = spans }))
spans_from (suc left) bytes core at spans =
    cond (bit (map_of bytes) core == 1)
    (and_then (span_at bytes at) (λ s. spans_from left bytes (core + 1) s.end (slice_set spans core s)))
    (spans_from left bytes (core + 1) at spans)

-- a bundle for so many cores
abbrev pub bundle_of : List ℕ → ℕ → Result Bundle Refusal
bundle_of bytes cores =
    cond (length bytes == 0) (Err (refusal CutShort 0))
    (cond (differs (map_of bytes / 2 ^ cores) 0) (Err (refusal UnknownMapBits 0)) (spans_from 8 bytes 0 1 (replicate 8 no_trace)))

-- the records of a trace inside the bytes: as many as were counted, and written again they are those bytes
pub record Readable (bytes : List ℕ) (s : Span) : Type 0 where
  pub records : List Record
  pub read : records_in bytes s.start s.end 0 ≡ Ok records
  pub counted : length records ≡ s.records
  pub rewritten : encode_all records 0 ≡ window bytes s.start s.end

-- **Every trace of a checked bundle reads to its end without a fault.**
abbrev pub AllReadable : List ℕ → Bundle → Type 0
AllReadable bytes b = (core : ℕ) → Readable bytes (slice_index_or b.spans core no_trace)
