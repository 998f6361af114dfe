-- The check of a flat memory's words.
use Rattle.std.specs.Prelude.{ℕ, Ok, Err, Result}
use Rattle.refusal.specs.declared.Refusal.{Refusal}
use Rattle.memory.specs.declared.flat.FlatLines.{FlatLines}

-- what the check of n words answered, as the check of a number of lines answers it
abbrev pub flat_counted : (n : ℕ) → Result (FlatLines n) Refusal → Result ℕ Refusal
flat_counted n (Ok lines) = Ok n
flat_counted n (Err f) = Err f
