use Rattle.std.proofs.Common.{◌≡◌, ◌++◌, string_bytes}
use Rattle.trace.specs.Reader.{remaining}
use Rattle.listing.specs.Listings.{rows_text, records_of}
use Rattle.listing.proofs.parts.push_trace.Given as goal

-- the rows so far and those of the records that are left are all rows
abbrev pub invariant-loop-index : goal.invariant-loop-index
invariant-loop-index l =
    (goal.iterator-loop-index).can_next l.index-iterator × (goal.iterator-loop-index).is_finite l.index-iterator
    × (string_bytes l.text ++ rows_text l.core l.index-iterator.count (records_of (remaining l.index-iterator.iter.reader))
    ≡ string_bytes l.initial.text ++ rows_text l.core 0 (records_of (remaining l.initial.index-iterator.iter.reader)))
