-- The whole table, row by row.
use Rattle.std.specs.Prelude.{List, [], ◌∷◌, ◌++◌, map}
use Rattle.coherence.specs.declared.states.LineState.{LineState}
use Rattle.coherence.specs.Moves.{Move, next}
use Rattle.coherence.specs.States.{states, events}

-- the rows of some states: an entry for each event
abbrev pub rows_of : List LineState → List Move
rows_of [] = []
rows_of (s ∷ more) = map (next s) events ++ rows_of more

abbrev pub whole_table : List Move
whole_table = rows_of states
