-- What is computed at each of the 18 states, or at each of the 180 entries of the table, holds of all.
use Rattle.std.proofs.Common.{◌≡◌, ℕ, ◌<◌, List, map, length, get_or, Some, None, sym, ap, ◌∙◌, arith}
use Rattle.std.proofs.lemmas.List.{get_or-map}
use Rattle.coherence.specs.declared.states.LineState.{LineState}
use Rattle.coherence.specs.declared.states.LineState.TheVariants.{I}
use Rattle.coherence.specs.declared.states.Event.{Event}
use Rattle.coherence.specs.declared.states.Event.TheVariants.{Data}
use Rattle.coherence.specs.Moves.{Move, next}
use Rattle.coherence.specs.States.{states, events, state_number, event_number}

-- every state and every event stands at its number
state_at : (s : LineState) → (get_or states (state_number s) I ≡ s) × (state_number s < 18)
state_at s = grind arith

event_at : (e : Event) → (get_or events (event_number e) Data ≡ e) × (event_number e < 10)
event_at e = grind arith

-- two functions that agree along a list agree at each of its places
same_at : {A X : Type 0} (f g : A → X) (xs : List A) (k : ℕ) (d : A) → k < length xs → map f xs ≡ map g xs → f (get_or xs k d) ≡ g (get_or xs k d)
same_at f g xs k d within same = sym (get_or-map f xs k d (f d) within) ∙ ap (λ l. get_or l k (f d)) same ∙ get_or-map g xs k d (f d) within

pub every_state : {X : Type 0} (f g : LineState → X) → map f states ≡ map g states → (s : LineState) → f s ≡ g s
every_state f g same s = ap f (sym (state_at s).0) ∙ same_at f g states (state_number s) I (state_at s).1 same ∙ ap g (state_at s).0

every_event : {X : Type 0} (f g : Event → X) → map f events ≡ map g events → (e : Event) → f e ≡ g e
every_event f g same e = ap f (sym (event_at e).0) ∙ same_at f g events (event_number e) Data (event_at e).1 same ∙ ap g (event_at e).0

-- a function at every entry, row by row
abbrev pub everywhere : {X : Type 0} → (LineState → Event → X) → List (List X)
everywhere f = map (λ s. map (f s) events) states

pub every_entry : {X : Type 0} (f g : LineState → Event → X) → everywhere f ≡ everywhere g → (s : LineState) (e : Event) → f s e ≡ g s e
every_entry f g same s = every_event (f s) (g s) (every_state (λ s. map (f s) events) (λ s. map (g s) events) same s)

-- of the next state, where there is one
abbrev pub on_move : {X : Type 0} → X → (LineState → X) → Move → X
on_move other f (Some t) = f t
on_move other f None = other

moved_to : {X : Type 0} (other y : X) (f : LineState → X) (move : Move) (t : LineState) → on_move other f move ≡ on_move other (λ _. y) move → move ≡ Some t → f t ≡ y
moved_to other y f move t same goes = sym (ap (on_move other f) goes) ∙ same ∙ ap (on_move other (λ _. y)) goes

-- under every event
pub every_move :
    {X : Type 0} (other : X) (f : LineState → X) (g : LineState → Event → X)
    → everywhere (λ s e. on_move other f (next s e)) ≡ everywhere (λ s e. on_move other (λ _. g s e) (next s e))
    → (s t : LineState) (e : Event) → next s e ≡ Some t → f t ≡ g s e
every_move other f g same s t e =
    moved_to other (g s e) f (next s e) t (every_entry (λ s e. on_move other f (next s e)) (λ s e. on_move other (λ _. g s e) (next s e)) same s e)

-- under one event
pub every_move_at :
    {X : Type 0} (e : Event) (other : X) (f : LineState → X) (g : LineState → X)
    → map (λ s. on_move other f (next s e)) states ≡ map (λ s. on_move other (λ _. g s) (next s e)) states
    → (s t : LineState) → next s e ≡ Some t → f t ≡ g s
every_move_at e other f g same s t =
    moved_to other (g s) f (next s e) t (every_state (λ s. on_move other f (next s e)) (λ s. on_move other (λ _. g s) (next s e)) same s)
