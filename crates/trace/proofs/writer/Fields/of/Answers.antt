use Rattle.std.proofs.Common.{rules}
use Rattle.trace.proofs.Laid.{encode_fields, size_fields}
use Rattle.trace.proofs.writer.Fields.of.Goals as goal

pub returns-clause-size : goal.returns-clause-size
returns-clause-size c = size_fields _ _ _ _ _ _ (search rules) (search rules) (search rules) (search rules)

pub returns-clause-bytes : goal.returns-clause-bytes
returns-clause-bytes c = encode_fields _ _ _ _ _ _ (search rules) (search rules) (search rules) (search rules)
