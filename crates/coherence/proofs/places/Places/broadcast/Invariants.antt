use Rattle.std.proofs.Common.{◌≡◌}
use Rattle.coherence.specs.Places.{told_to}
use Rattle.coherence.proofs.places.Places.broadcast.Given as goal

-- the cores so far have heard it
abbrev pub invariant-loop-number : goal.invariant-loop-number
invariant-loop-number l = l.self.records ≡ told_to l.number l.sender.number l.line.number l.message l.initial.self.records
