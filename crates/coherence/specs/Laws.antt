-- The laws of the protocol, each over all states and events.
use Rattle.std.specs.Prelude.{◌≡◌, ℕ, Bool, true, false, cond, List, [], ◌∷◌, is_some, Some, nat_le, slice_index}
use Rattle.model.specs.declared.Kind.{Kind}
use Rattle.model.specs.declared.Kind.TheVariants.{Load, Store, Replace}
use Rattle.coherence.specs.declared.states.LineState.{LineState}
use Rattle.coherence.specs.declared.states.Message.{Message}
use Rattle.coherence.specs.declared.states.Message.TheVariants.{GetS, GetM, PutM}
use Rattle.coherence.specs.declared.states.Event.{Event}
use Rattle.coherence.specs.declared.states.Event.TheVariants.{Access, Own, Other, Data}
use Rattle.coherence.specs.Moves.{next}
use Rattle.coherence.specs.Roles.{Role, role, roles_of, sent_role, done_in_call, Plain, settled, state_of, message_of, same_message, awaits_data}
use Rattle.coherence.specs.Roles.Role.{resting, unsent, awaiting}
use Rattle.coherence.specs.Roles.Plain.{invalid, shared, modified}
use Rattle.coherence.specs.States.{state_name}

-- ---- which events a line meets

-- a load or store while it rests; a replace too, unless there is nothing to replace
abbrev pub takes : Role → Plain → Kind → Bool
takes resting p Load = true
takes resting p Store = true
takes resting invalid Replace = false
takes resting shared Replace = true
takes resting modified Replace = true
takes (unsent waiting) p kind = false
takes (awaiting waiting) p kind = false

-- the message of its own request, if that is unsent
abbrev pub sends : Role → Message → Bool
sends resting m = false
sends (unsent kind) m = same_message (message_of kind) m
sends (awaiting kind) m = false

-- every message of other cores; data, if it awaits some
abbrev pub meets : LineState → Event → Bool
meets s (Access kind) = takes (role s) (settled s) kind
meets s (Own m) = sends (role s) m
meets s (Other m) = true
meets s Data = awaits_data (role s)

-- ---- roles

-- the role of a line whose message goes out
abbrev pub sent_from : Role → Role
sent_from resting = resting
sent_from (unsent kind) = sent_role kind
sent_from (awaiting kind) = awaiting kind

-- an access that is not done in the call waits unsent; the core's message sends it; data ends it; messages of other cores
-- leave the role as it is
abbrev pub role_after : LineState → Event → Role
role_after s (Access kind) = cond (done_in_call (settled s) kind) resting (unsent kind)
role_after s (Own m) = sent_from (role s)
role_after s (Other m) = role s
role_after s Data = resting

-- ---- plain MSI

-- a reader appears: the writer keeps a copy that is shared
abbrev pub demoted : Plain → Plain
demoted invalid = invalid
demoted shared = shared
demoted modified = shared

-- a shared copy is dropped without a word to others
abbrev pub dropped : Plain → Plain
dropped invalid = invalid
dropped shared = invalid
dropped modified = modified

-- what an event does to a line where every message takes effect at once; an access that needs a message does nothing yet
abbrev pub plain_after : Plain → Event → Plain
plain_after p (Access Load) = p
plain_after p (Access Store) = p
plain_after p (Access Replace) = dropped p
plain_after p (Own GetS) = shared
plain_after p (Own GetM) = modified
plain_after p (Own PutM) = invalid
plain_after p (Other GetS) = demoted p
plain_after p (Other GetM) = invalid
plain_after p (Other PutM) = p
plain_after p Data = p

-- a line that is about to be replaced keeps no shared copy
abbrev pub kept : Role → Plain → Plain
kept resting p = p
kept (unsent Load) p = p
kept (unsent Store) p = p
kept (unsent Replace) p = dropped p
kept (awaiting kind) p = p

-- ---- names

abbrev pub capitals : List ℕ → List ℕ
capitals [] = []
capitals (letter ∷ more) = cond (nat_le letter 90) (letter ∷ capitals more) (capitals more)

abbrev pub last_of : ℕ → List ℕ → ℕ
last_of letter [] = letter
last_of letter (next ∷ more) = last_of next more

-- the state that a name says a line comes to: its last capital where data is outstanding, its first where not
abbrev pub name_says : LineState → ℕ
name_says s = cond (awaits_data (role s)) (last_of 0 (capitals (state_name s))) (slice_index (state_name s) 0)

-- ---- the laws

pub record ProtocolLaws : Type 0 where
  -- the table has a next state for just the events that a line meets
  pub met : (s : LineState) (e : Event) → is_some (next s e) ≡ meets s e
  -- **settled states move like plain MSI**, but that a line about to be replaced keeps no shared copy
  pub like_plain : (s t : LineState) (e : Event) → next s e ≡ Some t → settled t ≡ kept (role s) (plain_after (settled s) e)
  -- **no event moves a line into two roles**: it has one afterwards, and which one is as told above
  pub one_role : (s t : LineState) (e : Event) → next s e ≡ Some t → roles_of t ≡ role_after s e ∷ []
  -- data moves a line to the state that it settles to
  pub arrived : (s t : LineState) → next s Data ≡ Some t → t ≡ state_of (settled s)
  -- **a line settles as its name says**
  pub as_named : (s : LineState) → state_name (state_of (settled s)) ≡ name_says s ∷ []
