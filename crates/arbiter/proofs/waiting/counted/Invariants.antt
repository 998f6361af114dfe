use Rattle.std.proofs.Common.{◌≡◌, ◌+◌, ◌-◌, ◌<◌}
use Rattle.arbiter.specs.Waiting.{grants_until}
use Rattle.arbiter.proofs.waiting.counted.Given as goal

-- the core comes closer by one each time it is passed over, and what is left of the grants ends as all of them do
abbrev pub invariant-loop-passed : goal.invariant-loop-passed
invariant-loop-passed g l =
    let m = g.A.Arbiter in
    let all = m.wait l.initial.arbiter in
    (l.core < m.core_count l.arbiter)
    × (l.passed + m.distance l.arbiter l.core < all)
    × (grants_until m.picks m.moves l.ready l.core (all - l.passed) l.passed l.arbiter ≡ grants_until m.picks m.moves l.ready l.core all 0 l.initial.arbiter)

abbrev pub decreases-loop-passed : goal.decreases-loop-passed
decreases-loop-passed g l = g.A.Arbiter.distance l.arbiter l.core
