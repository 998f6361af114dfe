use Rattle.listing.proofs.Growing.{core_more}
use Rattle.listing.proofs.parts.push_all.Goals as goal

pub loop-core-preserved : goal.loop-core-preserved
loop-core-preserved g c =
    core_more (g.P.PerCore.text_of c.args.parts.now) _ _ c.args.cores.count c.loop-core.core c.loop-core.invariant _ c.loop-core-test.true c.in_ok-push.ensures
