-- The number of each reason, in checking order; a refusal by its parts, as text, and at the end of what went before it.
use Rattle.std.specs.Prelude.{ℕ, List, ◌++◌, Ok, Err, codes, decimal, Result}
use Rattle.refusal.specs.declared.Reason.{Reason}
use Rattle.refusal.specs.declared.Reason.TheVariants.{InputSize, CoreCount, LineCount, SettingRange, CoreRange, KindRange, LineRange, CoreBusy, ReplaceInvalid, ClockEnd, UnknownMapBits, CutShort, KindByte, RedundantField, TrailingBytes, NoSpace}
use Rattle.refusal.specs.declared.Refusal.{Refusal}

abbrev pub number : Reason → ℕ
number InputSize = 1
number CoreCount = 2
number LineCount = 3
number SettingRange = 4
number CoreRange = 5
number KindRange = 6
number LineRange = 7
number CoreBusy = 8
number ReplaceInvalid = 9
number ClockEnd = 10
number UnknownMapBits = 11
number CutShort = 12
number KindByte = 13
number RedundantField = 14
number TrailingBytes = 15
number NoSpace = 16

abbrev pub refusal : Reason → ℕ → Refusal
refusal why at = record { reason = why; place = at }

-- `refused`, the number and the place
abbrev pub refused_text : Refusal → List ℕ
refused_text f = codes "refused," ++ (decimal (number f.reason) ++ (codes "," ++ decimal f.place))

-- one check after another: the first refusal counts
abbrev pub and_then : {A B : Type 0} → Result A Refusal → (A → Result B Refusal) → Result B Refusal
and_then (Ok x) more = more x
and_then (Err f) more = Err f
