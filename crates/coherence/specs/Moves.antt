-- **The rule of a line's moves**: its next state, by its present state and the event.
use Rattle.std.specs.Prelude.{Some, None, Option}
use Rattle.model.specs.declared.Kind.TheVariants.{Load, Store, Replace}
use Rattle.coherence.specs.declared.states.LineState.{LineState}
use Rattle.coherence.specs.declared.states.LineState.TheVariants.{I, S, M, ISad, ISd, IMad, IMd, IMdS, SMad, SMd, SMdS, ISdI, IMdI, IMdSI, SMdI, SMdSI, MIa, IIa}
use Rattle.coherence.specs.declared.states.Message.TheVariants.{GetS, GetM, PutM}
use Rattle.coherence.specs.declared.states.Event.{Event}
use Rattle.coherence.specs.declared.states.Event.TheVariants.{Access, Own, Other, Data}

-- the next state, or never: no line in that state ever meets that event
abbrev pub Move : Type 0
Move = Option LineState

abbrev pub never : Move
never = None

abbrev pub to : LineState → Move
to s = Some s

-- a row: the moves under the core's load, store and replace; its own GetS, GetM and PutM; another core's GetS, GetM and
-- PutM; data
abbrev pub row : Move → Move → Move → Move → Move → Move → Move → Move → Move → Move → Event → Move
row load store replace own_gets own_getm own_putm other_gets other_getm other_putm arrives (Access Load) = load
row load store replace own_gets own_getm own_putm other_gets other_getm other_putm arrives (Access Store) = store
row load store replace own_gets own_getm own_putm other_gets other_getm other_putm arrives (Access Replace) = replace
row load store replace own_gets own_getm own_putm other_gets other_getm other_putm arrives (Own GetS) = own_gets
row load store replace own_gets own_getm own_putm other_gets other_getm other_putm arrives (Own GetM) = own_getm
row load store replace own_gets own_getm own_putm other_gets other_getm other_putm arrives (Own PutM) = own_putm
row load store replace own_gets own_getm own_putm other_gets other_getm other_putm arrives (Other GetS) = other_gets
row load store replace own_gets own_getm own_putm other_gets other_getm other_putm arrives (Other GetM) = other_getm
row load store replace own_gets own_getm own_putm other_gets other_getm other_putm arrives (Other PutM) = other_putm
row load store replace own_gets own_getm own_putm other_gets other_getm other_putm arrives Data = arrives

abbrev pub next : LineState → Event → Move
next I = row (to ISad) (to IMad) never never never never (to I) (to I) (to I) never
next S = row (to S) (to SMad) (to I) never never never (to S) (to I) (to S) never
next M = row (to M) (to M) (to MIa) never never never (to S) (to I) (to M) never
next ISad = row never never never (to ISd) never never (to ISad) (to ISad) (to ISad) never
next ISd = row never never never never never never (to ISd) (to ISdI) (to ISd) (to S)
next IMad = row never never never never (to IMd) never (to IMad) (to IMad) (to IMad) never
next IMd = row never never never never never never (to IMdS) (to IMdI) (to IMd) (to M)
next IMdS = row never never never never never never (to IMdS) (to IMdSI) (to IMdS) (to S)
next SMad = row never never never never (to SMd) never (to SMad) (to IMad) (to SMad) never
next SMd = row never never never never never never (to SMdS) (to SMdI) (to SMd) (to M)
next SMdS = row never never never never never never (to SMdS) (to SMdSI) (to SMdS) (to S)
next ISdI = row never never never never never never (to ISdI) (to ISdI) (to ISdI) (to I)
next IMdI = row never never never never never never (to IMdI) (to IMdI) (to IMdI) (to I)
next IMdSI = row never never never never never never (to IMdSI) (to IMdSI) (to IMdSI) (to I)
next SMdI = row never never never never never never (to SMdI) (to SMdI) (to SMdI) (to I)
next SMdSI = row never never never never never never (to SMdSI) (to SMdSI) (to SMdSI) (to I)
next MIa = row never never never never never (to I) (to IIa) (to IIa) (to MIa) never
next IIa = row never never never never never (to I) (to IIa) (to IIa) (to IIa) never
