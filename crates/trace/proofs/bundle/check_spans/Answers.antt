use Rattle.std.proofs.Common.{arith, rules}
use Rattle.std.proofs.lemmas.List.{set-get_or}
use Rattle.trace.proofs.Spans.{none_checked, skips, takes}
use Rattle.trace.proofs.bundle.check_spans.Goals as goal
use Rattle.trace.proofs.bundle.check_spans.Goals.{then-has_bit+in_ok-span, else-has_bit}

pub loop-core-init : goal.loop-core-init
loop-core-init c = none_checked c.args.bytes.now

pub loop-core-preserved : goal.loop-core-preserved
loop-core-preserved c =
    elim c.if-has_bit.branch [
      | then-has_bit+in_ok-span w ↦ rw (w.span-items-is, w.at-is) (takes _ _ _ _ _ (omega arith) (search rules) w.in_ok-span.ensures.value w.in_ok-span.ensures.readable c.loop-core.invariant)
      | else-has_bit w ↦ rw (w.span-items-is, w.at-is, set-get_or) (skips _ _ _ _ (omega arith) (search rules) c.loop-core.invariant)
    ]
