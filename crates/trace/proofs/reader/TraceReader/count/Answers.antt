use Rattle.std.proofs.Common.{◌∙◌, arith, rules}
use Rattle.trace.proofs.Counts.{MovesOn, moves_on}
use Rattle.trace.proofs.reader.TraceReader.count.Goals as goal

moved : (c : goal.Then-is_some) → MovesOn c.loop-n.self c.next.new.self
moved c = moves_on _ _ c.in_ok-next.field-0 c.next.ensures.state (search rules) (search rules)

pub overflow_add-n : goal.overflow_add-n
overflow_add-n c = let m = moved c in omega arith

pub loop-n-smaller : goal.loop-n-smaller
loop-n-smaller c = let m = moved c in omega arith

pub loop-n-preserved : goal.loop-n-preserved
loop-n-preserved c =
    let m = moved c in
    record { read = omega arith; same_end = m.same_end ∙ c.loop-n.invariant.same_end; counted = c.loop-n.invariant.counted ∙ m.counted c.loop-n.n }
