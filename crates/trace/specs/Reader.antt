-- What one read of a trace reader answers, and the reader after it.
use Rattle.std.specs.Prelude.{ℕ, List, [], Some, None, Ok, Err, Option, Result}
use Rattle.refusal.specs.declared.Reason.{Reason}
use Rattle.refusal.specs.declared.Refusal.{Refusal}
use Rattle.refusal.specs.Refusals.{refusal}
use Rattle.trace.specs.declared.Record.{Record}
use Rattle.trace.specs.declared.reader.TraceReader.{TraceReader}
use Rattle.trace.specs.Whole.{read_at, joined, records_in}

-- the read at the reader's place
abbrev pub read_here : TraceReader → Result (Option (Record × ℕ)) Reason
read_here t = read_at t.bytes.now t.at t.end t.before

-- a record, none at the end, or a fault at its place
abbrev pub found : ℕ → Result (Option (Record × ℕ)) Reason → Result (Option Record) Refusal
found at (Ok None) = Ok None
found at (Ok (Some (r, next))) = Ok (Some r)
found at (Err why) = Err (refusal why at)

abbrev pub answer : TraceReader → Result (Option Record) Refusal
answer t = found t.at (read_here t)

-- a record that was read is passed over; otherwise nothing moves
abbrev pub passed : TraceReader → Result (Option (Record × ℕ)) Reason → TraceReader
passed t (Ok None) = t
passed t (Ok (Some (r, next))) = record { bytes = t.bytes; at = next; end = t.end; before = r.line }
passed t (Err why) = t

abbrev pub after : TraceReader → TraceReader
after t = passed t (read_here t)

-- the records that are left, or the first fault among them
abbrev pub remaining : TraceReader → Result (List Record) Refusal
remaining t = records_in t.bytes.now t.at t.end t.before

-- what a read takes from them
abbrev pub taken : Result (Option Record) Refusal → Result (List Record) Refusal → Result (List Record) Refusal
taken (Ok None) rest = Ok []
taken (Ok (Some r)) rest = joined r rest
taken (Err f) rest = Err f
