use Rattle.std.proofs.Common.{get_or, set, ap, ◌∙◌}
use Rattle.coherence.specs.Places.{blank, place_of}
use Rattle.coherence.specs.Records.{moved}
use Rattle.coherence.proofs.Broadcasts.{told_none, told_more}
use Rattle.coherence.proofs.places.Places.broadcast.Goals as goal

pub loop-number-init : goal.loop-number-init
loop-number-init c = told_none _ _ _ _

pub loop-number-preserved : goal.loop-number-preserved
loop-number-preserved c =
    let records = c.loop-number.self.records in
    let at = place_of c.loop-number.number c.args.line.number in
    c.handle.ensures.records
    ∙ ap (λ e. set records at (moved e (get_or records at blank))) c.heard_as.ensures
    ∙ told_more _ _ _ _ _ records c.args.line.within c.loop-number.invariant
