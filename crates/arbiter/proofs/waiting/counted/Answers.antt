use Rattle.std.proofs.Common.{◌≡◌, ◌≢◌, ◌+◌, ◌<◌, Some, sym, ◌∙◌, arith, rules}
use Rattle.arbiter.proofs.Waits.{until_granted, until_passed}
use Rattle.arbiter.proofs.waiting.counted.Goals as goal

pub loop-passed-preserved : goal.loop-passed-preserved
loop-passed-preserved g c =
    let m = g.A.Arbiter in
    let law = g.met.A.Arbiter.bounded_waiting in
    let a = c.loop-passed.arbiter in
    let inv = c.loop-passed.invariant in
    let ready = c.args.ready in
    let core = c.args.core in
    let all = m.wait c.args.arbiter.now in
    let refused : c.grant.result ≢ Some core = search rules in
    let passed : m.picks a ready ≢ Some core = λ e. refused (c.grant.ensures.answer ∙ e) in
    let closer : m.distance (m.moves a ready) core < m.distance a core = law.passed_over_is_closer a ready core inv.0 c.requires.ready passed in
    let still : core < m.core_count (m.moves a ready) = rw (law.cores_stay a ready) inv.0 in
    let nearer : c.loop-passed.passed + 1 + m.distance (m.moves a ready) core < all = omega (arith, inv.1) in
    rw c.grant.ensures.after (still, nearer, sym (until_passed m.picks m.moves ready core all c.loop-passed.passed a (omega (arith, inv.1)) passed) ∙ inv.2)

pub returns : goal.returns
returns g c =
    let m = g.A.Arbiter in
    let a = c.loop-passed.arbiter in
    let inv = c.loop-passed.invariant in
    let granted : c.grant.result ≡ Some c.args.core = search rules in
    record {
      until = rw c.grant.ensures.after (sym (until_granted m.picks m.moves c.args.ready c.args.core (m.wait c.args.arbiter.now) c.loop-passed.passed a (omega (arith, inv.1)) (sym c.grant.ensures.answer ∙ granted)) ∙ inv.2);
      soon = omega (arith, inv.1);
    }
