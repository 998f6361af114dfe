-- One core's record of one line, and what an event does to it.
use Rattle.std.specs.Prelude.{ℕ, Some, None}
use Rattle.coherence.specs.declared.controller.LineRecord.{LineRecord}
use Rattle.coherence.specs.declared.states.Event.{Event}
use Rattle.coherence.specs.declared.states.Event.TheVariants.{Data}
use Rattle.coherence.specs.declared.states.LineState.{LineState}
use Rattle.coherence.specs.Moves.{Move, next}

abbrev pub with_state : LineState → LineRecord → LineRecord
with_state s r = record { state = s; word = r.word }

abbrev pub with_word : ℕ → LineRecord → LineRecord
with_word w r = record { state = r.state; word = w }

-- the record after a move; where no line in its state ever meets the event, it stays
abbrev pub after_move : LineRecord → Move → LineRecord
after_move r (Some t) = with_state t r
after_move r None = r

abbrev pub moved : Event → LineRecord → LineRecord
moved e r = after_move r (next r.state e)

-- the same for the arrival of data with a word for the place
abbrev pub after_data : ℕ → LineRecord → Move → LineRecord
after_data word r (Some t) = record { state = t; word = word }
after_data word r None = r

abbrev pub received : ℕ → LineRecord → LineRecord
received word r = after_data word r (next r.state Data)
