use Rattle.arbiter.proofs.Waits.{fairly}
use Rattle.arbiter.proofs.waiting.grants_until.Goals as goal

pub returns-then-core-cores-clause-fair : goal.returns-then-core-cores-clause-fair
returns-then-core-cores-clause-fair g c = fairly g.met.A.Arbiter.bounded_waiting c.args.arbiter.now

pub returns-clause-fair : goal.returns-clause-fair
returns-clause-fair g c = fairly g.met.A.Arbiter.bounded_waiting c.args.arbiter.now
