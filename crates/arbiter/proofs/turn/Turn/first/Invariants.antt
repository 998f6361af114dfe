use Rattle.std.proofs.Common.{◌≡◌, ◌-◌}
use Rattle.arbiter.specs.Rounds.{scan}
use Rattle.arbiter.specs.Turns.{first_of}
use Rattle.arbiter.proofs.turn.Turn.first.Given as goal

-- what is still to scan has the whole scan's answer
abbrev pub invariant-loop : goal.invariant-loop
invariant-loop l =
    let n = l.self.cores.count in
    (l.turn.cores ≡ l.self.cores) × (scan n l.ready l.turn.core (n - l.counter) ≡ first_of l.self l.ready)
