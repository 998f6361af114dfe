use Rattle.std.proofs.Common.{refl}
use lib.Count.{ones, ones_in}
use Rattle.std.specs.Fmt.{digits}
use Rattle.trace.specs.Reading.{decode}
use Rattle.trace.specs.Whole.{read_at, records_from}
use Rattle.trace.specs.Bundle.{span_at, spans_from}
use Rattle.cases.proofs.worked_cases.Goals as goal

pub returns-clause-formats : goal.returns-clause-formats
unfolding decode read_at records_from span_at spans_from digits
returns-clause-formats c = record { of_traces = refl; of_bundles = refl; of_cores = refl; of_settings = refl; of_listings = refl }

pub returns-clause-parts : goal.returns-clause-parts
unfolding ones ones_in
returns-clause-parts c = record {
  of_lines = refl;
  by_slot = refl;
  by_fixed_slot = refl;
  by_last = refl;
  of_slots = refl;
  of_fixed_slots = refl;
  of_rounds = refl;
  of_packing = refl;
  of_unpacking = refl;
}
