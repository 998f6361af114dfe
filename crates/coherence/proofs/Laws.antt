-- The table, looked up at a state and an event, is the rule; and the laws of the protocol. Each is computed once over all.
use Rattle.std.proofs.Common.{◌≡◌, ◌+◌, ◌*◌, [], ◌∷◌, get_or, is_some, refl}
use Rattle.coherence.specs.declared.states.LineState.{LineState}
use Rattle.coherence.specs.declared.states.LineState.TheVariants.{I}
use Rattle.coherence.specs.declared.states.Event.{Event}
use Rattle.coherence.specs.declared.states.Event.TheVariants.{Data}
use Rattle.coherence.specs.Laws.{ProtocolLaws, meets, kept, plain_after, role_after, name_says}
use Rattle.coherence.specs.Moves.{never, next}
use Rattle.coherence.specs.Roles.{role, roles_of, settled, state_of}
use Rattle.coherence.specs.Roles.Plain.{invalid}
use Rattle.coherence.specs.States.{state_name, state_number, event_number}
use Rattle.coherence.specs.Table.{whole_table}
use Rattle.coherence.proofs.Everywhere.{every_state, every_entry, every_move, every_move_at}

pub looked_up : (s : LineState) (e : Event) → get_or whole_table (state_number s * 10 + event_number e) never ≡ next s e
looked_up = every_entry (λ s e. get_or whole_table (state_number s * 10 + event_number e) never) next refl

pub protocol_laws : ProtocolLaws
protocol_laws = record {
  met = every_entry (λ s e. is_some (next s e)) meets refl;
  like_plain = every_move invalid settled (λ s e. kept (role s) (plain_after (settled s) e)) refl;
  one_role = every_move [] roles_of (λ s e. role_after s e ∷ []) refl;
  arrived = every_move_at Data I (λ t. t) (λ s. state_of (settled s)) refl;
  as_named = every_state (λ s. state_name (state_of (settled s))) (λ s. name_says s ∷ []) refl;
}
