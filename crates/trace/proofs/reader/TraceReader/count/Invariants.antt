use Rattle.std.proofs.Common.{◌≡◌, ◌-◌, ◌≤◌}
use Rattle.trace.specs.Whole.{count_of}
use Rattle.trace.specs.Reader.{remaining}
use Rattle.trace.proofs.Counts.{plus}
use Rattle.trace.proofs.reader.TraceReader.count.Given as goal

abbrev pub invariant-loop-n : goal.invariant-loop-n
invariant-loop-n l =
    record {
      read : l.n ≤ l.self.at;
      same_end : l.self.end ≡ l.fn.self.end;
      counted : count_of (remaining l.fn.self) ≡ plus l.n (count_of (remaining l.self));
    }

abbrev pub decreases-loop-n : goal.decreases-loop-n
decreases-loop-n l = l.self.end - l.self.at
