use Rattle.trace.proofs.Spans.{Checked}
use Rattle.trace.proofs.bundle.check_spans.Given as goal

abbrev pub invariant-loop-core : goal.invariant-loop-core
invariant-loop-core l = Checked l.bytes l.core l.at l.span-items
