-- What each state is for: the request that it waits with, and what the line comes to.
use Rattle.std.specs.Prelude.{ℕ, ◌+◌, Bool, true, false, cond, List, [], ◌∷◌, ◌==◌}
use Rattle.model.specs.declared.Kind.{Kind}
use Rattle.model.specs.declared.Kind.TheVariants.{Load, Store, Replace}
use Rattle.model.specs.Numbers.{kind_number}
use Rattle.coherence.specs.declared.states.LineState.{LineState}
use Rattle.coherence.specs.declared.states.LineState.TheVariants.{I, S, M, ISad, ISd, IMad, IMd, IMdS, SMad, SMd, SMdS, ISdI, IMdI, IMdSI, SMdI, SMdSI, MIa, IIa}
use Rattle.coherence.specs.declared.states.Message.{Message}
use Rattle.coherence.specs.declared.states.Message.TheVariants.{GetS, GetM, PutM}

-- the message of an access that waits
abbrev pub message_of : Kind → Message
message_of Load = GetS
message_of Store = GetM
message_of Replace = PutM

abbrev pub message_number : Message → ℕ
message_number GetS = 0
message_number GetM = 1
message_number PutM = 2

abbrev pub same_message : Message → Message → Bool
same_message a b = message_number a == message_number b

-- ---- roles

-- the part that a line has in its core's request
pub data Role : Type 0 where
  -- none: the line is I, S or M
  resting : Role
  -- it is the request's line, and the message is unsent
  unsent : Kind → Role
  -- it is the request's line, the message went out, and data is outstanding
  awaiting : Kind → Role

abbrev pub role : LineState → Role
role I = resting
role S = resting
role M = resting
role ISad = unsent Load
role ISd = awaiting Load
role IMad = unsent Store
role IMd = awaiting Store
role IMdS = awaiting Store
role SMad = unsent Store
role SMd = awaiting Store
role SMdS = awaiting Store
role ISdI = awaiting Load
role IMdI = awaiting Store
role IMdSI = awaiting Store
role SMdI = awaiting Store
role SMdSI = awaiting Store
role MIa = unsent Replace
role IIa = unsent Replace

-- all roles; data is never awaited for a replace
abbrev pub roles : List Role
roles = resting ∷ unsent Load ∷ unsent Store ∷ unsent Replace ∷ awaiting Load ∷ awaiting Store ∷ []

abbrev pub role_number : Role → ℕ
role_number resting = 0
role_number (unsent kind) = 1 + kind_number kind
role_number (awaiting kind) = 4 + kind_number kind

-- a state fits a role
abbrev pub fits : LineState → Role → Bool
fits s r = role_number (role s) == role_number r

-- those of some roles that a state fits
abbrev pub fitting : LineState → List Role → List Role
fitting s [] = []
fitting s (r ∷ more) = cond (fits s r) (r ∷ fitting s more) (fitting s more)

abbrev pub roles_of : LineState → List Role
roles_of s = fitting s roles

-- the part that the line of a request has once the message went out: a replaced line rests in I, whatever becomes of its
-- word on the way
abbrev pub sent_role : Kind → Role
sent_role Load = awaiting Load
sent_role Store = awaiting Store
sent_role Replace = resting

abbrev pub awaits_data : Role → Bool
awaits_data resting = false
awaits_data (unsent kind) = false
awaits_data (awaiting kind) = true

-- ---- settled states

-- the three states of plain MSI, a bus on which every message takes effect at once
pub data Plain : Type 0 where
  invalid : Plain
  shared : Plain
  modified : Plain

-- what a line becomes once outstanding data has come, requests that are unsent left out
abbrev pub settled : LineState → Plain
settled I = invalid
settled S = shared
settled M = modified
settled ISad = invalid
settled ISd = shared
settled IMad = invalid
settled IMd = modified
settled IMdS = shared
settled SMad = shared
settled SMd = modified
settled SMdS = shared
settled ISdI = invalid
settled IMdI = invalid
settled IMdSI = invalid
settled SMdI = invalid
settled SMdSI = invalid
settled MIa = modified
settled IIa = invalid

abbrev pub state_of : Plain → LineState
state_of invalid = I
state_of shared = S
state_of modified = M

-- the accesses that are done in the call: a load in S or M, a store in M, a replace in S
abbrev pub done_in_call : Plain → Kind → Bool
done_in_call invalid kind = false
done_in_call shared Load = true
done_in_call shared Store = false
done_in_call shared Replace = true
done_in_call modified Load = true
done_in_call modified Store = true
done_in_call modified Replace = false
