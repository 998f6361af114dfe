-- The states and events by number and name.
use Rattle.std.specs.Prelude.{ℕ, List, [], ◌∷◌, codes}
use Rattle.model.specs.declared.Kind.TheVariants.{Load, Store, Replace}
use Rattle.coherence.specs.declared.states.LineState.{LineState}
use Rattle.coherence.specs.declared.states.LineState.TheVariants.{I, S, M, ISad, ISd, IMad, IMd, IMdS, SMad, SMd, SMdS, ISdI, IMdI, IMdSI, SMdI, SMdSI, MIa, IIa}
use Rattle.coherence.specs.declared.states.Message.TheVariants.{GetS, GetM, PutM}
use Rattle.coherence.specs.declared.states.Event.{Event}
use Rattle.coherence.specs.declared.states.Event.TheVariants.{Access, Own, Other, Data}

-- the 18 states, in the order of the table's rows
abbrev pub states : List LineState
states = I ∷ S ∷ M ∷ ISad ∷ ISd ∷ IMad ∷ IMd ∷ IMdS ∷ SMad ∷ SMd ∷ SMdS ∷ ISdI ∷ IMdI ∷ IMdSI ∷ SMdI ∷ SMdSI ∷ MIa ∷ IIa ∷ []

abbrev pub state_number : LineState → ℕ
state_number I = 0
state_number S = 1
state_number M = 2
state_number ISad = 3
state_number ISd = 4
state_number IMad = 5
state_number IMd = 6
state_number IMdS = 7
state_number SMad = 8
state_number SMd = 9
state_number SMdS = 10
state_number ISdI = 11
state_number IMdI = 12
state_number IMdSI = 13
state_number SMdI = 14
state_number SMdSI = 15
state_number MIa = 16
state_number IIa = 17

abbrev pub state_name : LineState → List ℕ
state_name I = codes "I"
state_name S = codes "S"
state_name M = codes "M"
state_name ISad = codes "ISad"
state_name ISd = codes "ISd"
state_name IMad = codes "IMad"
state_name IMd = codes "IMd"
state_name IMdS = codes "IMdS"
state_name SMad = codes "SMad"
state_name SMd = codes "SMd"
state_name SMdS = codes "SMdS"
state_name ISdI = codes "ISdI"
state_name IMdI = codes "IMdI"
state_name IMdSI = codes "IMdSI"
state_name SMdI = codes "SMdI"
state_name SMdSI = codes "SMdSI"
state_name MIa = codes "MIa"
state_name IIa = codes "IIa"

-- the ten events, in the order of the table's columns
abbrev pub events : List Event
events = Access Load ∷ Access Store ∷ Access Replace ∷ Own GetS ∷ Own GetM ∷ Own PutM ∷ Other GetS ∷ Other GetM ∷ Other PutM ∷ Data ∷ []

abbrev pub event_number : Event → ℕ
event_number (Access Load) = 0
event_number (Access Store) = 1
event_number (Access Replace) = 2
event_number (Own GetS) = 3
event_number (Own GetM) = 4
event_number (Own PutM) = 5
event_number (Other GetS) = 6
event_number (Other GetM) = 7
event_number (Other PutM) = 8
event_number Data = 9
