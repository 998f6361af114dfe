-- The records of all lines in all cores, as a list of 512: the 64 lines of core 0 first.
use Rattle.std.specs.Prelude.{◌≡◌, ℕ, ◌+◌, ◌*◌, ◌/◌, ◌%◌, ◌<◌, cond, ◌&&◌, List, [], ◌∷◌, ◌==◌, nat_lt, slice_index_or, slice_set}
use Rattle.coherence.specs.declared.controller.LineRecord.{LineRecord}
use Rattle.coherence.specs.declared.states.Event.{Event}
use Rattle.coherence.specs.declared.states.Event.TheVariants.{Own, Other}
use Rattle.coherence.specs.declared.states.LineState.TheVariants.{I}
use Rattle.coherence.specs.declared.states.Message.{Message}
use Rattle.coherence.specs.Records.{moved, received, with_word}

-- what every place starts as
abbrev pub blank : LineRecord
blank = record { state = I; word = 0 }

-- where a core's record of a line stands
abbrev pub place_of : ℕ → ℕ → ℕ
place_of core line = core * 64 + line

abbrev pub record_at : List LineRecord → ℕ → ℕ → LineRecord
record_at records core line = slice_index_or records (place_of core line) blank

-- one record replaced, the others as they were
abbrev pub with_record : List LineRecord → ℕ → ℕ → LineRecord → List LineRecord
with_record records core line r = slice_set records (place_of core line) r

-- a core's line meets an event
abbrev pub moved_at : List LineRecord → ℕ → ℕ → Event → List LineRecord
moved_at records core line e = with_record records core line (moved e (record_at records core line))

-- data arrives at a core's line, with a word for its place
abbrev pub received_at : List LineRecord → ℕ → ℕ → ℕ → List LineRecord
received_at records core line word = with_record records core line (received word (record_at records core line))

-- a core's place of a line gets a word
abbrev pub with_word_at : List LineRecord → ℕ → ℕ → ℕ → List LineRecord
with_word_at records core line word = with_record records core line (with_word word (record_at records core line))

-- every record but one is as it was
abbrev pub OthersStay : ℕ → ℕ → List LineRecord → List LineRecord → Type 0
OthersStay core line before after = (c l : ℕ) → l < 64 → ((c ≡ core) × (l ≡ line) → ⊥) → record_at after c l ≡ record_at before c l

-- every record from place k on, by its own core and line
abbrev pub changed_from : ℕ → (ℕ → ℕ → LineRecord → LineRecord) → List LineRecord → List LineRecord
changed_from k change [] = []
changed_from k change (r ∷ more) = change (k / 64) (k % 64) r ∷ changed_from (k + 1) change more

abbrev pub changed : (ℕ → ℕ → LineRecord → LineRecord) → List LineRecord → List LineRecord
changed = changed_from 0

-- as what a core hears the sender's message
abbrev pub heard_as : ℕ → Message → ℕ → Event
heard_as sender m core = cond (core == sender) (Own m) (Other m)

-- what a record becomes, by its core and line, once the cores below n hear a message about a line: only records of that line
-- meet it
abbrev pub told : ℕ → ℕ → ℕ → Message → ℕ → ℕ → LineRecord → LineRecord
told n sender line m core l r = cond (l == line && nat_lt core n) (moved (heard_as sender m core) r) r

abbrev pub told_to : ℕ → ℕ → ℕ → Message → List LineRecord → List LineRecord
told_to n sender line m = changed (told n sender line m)

-- **the broadcast** of a message, to all 8 cores
abbrev pub broadcast : ℕ → ℕ → Message → List LineRecord → List LineRecord
broadcast = told_to 8

-- core by core and line by line: every core's record of that line meets the message, and no other record does
abbrev pub AllHear : ℕ → ℕ → Message → List LineRecord → List LineRecord → Type 0
AllHear sender line m before after =
    (core l : ℕ) → core < 8 → l < 64 → record_at after core l ≡ cond (l == line) (moved (heard_as sender m core) (record_at before core l)) (record_at before core l)
