-- Counting the records that a reader has left.
use Rattle.std.proofs.Common.{◌≡◌, ℕ, ◌+◌, ◌<◌, ◌≤◌, true, Some, None, Ok, Err, Option, Result, is_some, refl, arith}
use Rattle.refusal.specs.declared.Reason.{Reason}
use Rattle.refusal.specs.declared.Refusal.{Refusal}
use Rattle.trace.specs.declared.Record.{Record}
use Rattle.trace.specs.declared.reader.TraceReader.{TraceReader}
use Rattle.trace.specs.Reader.{read_here, found, answer, passed, after, remaining}
use Rattle.trace.specs.Whole.{joined, count_of}
use Rattle.trace.proofs.Steps.{has_read, remaining_taken}

-- so many more
abbrev pub plus : ℕ → Result ℕ Refusal → Result ℕ Refusal
plus n (Ok m) = Ok (n + m)
plus n (Err f) = Err f

-- what a read that gives a record does: the reader moves on, and one record less is left
pub record MovesOn (t t' : TraceReader) : Type 0 where
  pub forward : t.at < t'.at
  pub within : t'.at ≤ t.end
  pub same_end : t'.end ≡ t.end
  pub counted : (n : ℕ) → plus n (count_of (remaining t)) ≡ plus (n + 1) (count_of (remaining t'))

moved_by : (t : TraceReader) (x : Result (Option (Record × ℕ)) Reason) (r : Record) → read_here t ≡ x → found t.at x ≡ Ok (Some r)
    → remaining t ≡ joined r (remaining (passed t x)) → MovesOn t (passed t x)
moved_by t (Ok None) r e h k = cc
moved_by t (Ok (Some (q, next))) r e h k =
    let read = has_read t.bytes.now t.at t.end t.before q next e in
    record {
      forward = read.forward;
      within = read.within;
      same_end = refl;
      counted = λ n. grind arith;
    }
moved_by t (Err why) r e h k = cc

pub moves_on : (t t' : TraceReader) (o : Option Record) → t' ≡ after t → answer t ≡ Ok o → is_some o ≡ true → MovesOn t t'
moves_on t t' (Some r) e h s = rw e (moved_by t (read_here t) r refl h (grind (arith, remaining_taken t)))
moves_on t t' None e h s = cc
