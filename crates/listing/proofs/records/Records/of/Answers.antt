use Rattle.std.proofs.Common.{arith}
use Rattle.listing.proofs.Lengths.{no_more_than_bytes}
use Rattle.listing.proofs.records.Records.of.Goals as goal

pub returns-clause-few : goal.returns-clause-few
returns-clause-few c = rw c.resume.ensures (omega (arith, no_more_than_bytes c.args.bytes.now c.args.span.start c.args.span.end 0))
