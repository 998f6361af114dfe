-- What an accepted record says of its bytes.
use Rattle.std.proofs.Common.{◌≡◌, ℕ, ◌<◌, ◌≤◌, false, List, length, Ok, arith}
use Rattle.std.proofs.lemmas.Bool.Decides.{nat_tests}
use Rattle.trace.specs.declared.Record.{Record}
use Rattle.trace.specs.Reading.{decode, size, map_of, strange_kind, redundant, record_in}

pub record Accepted (b : List ℕ) (before : ℕ) (rec : Record) : Type 0 where
  pub known : map_of b < 16
  pub room : size (map_of b) ≤ length b
  pub kind : strange_kind b ≡ false
  pub lean : redundant b before ≡ false
  pub value : rec ≡ record_in b before

pub accepted : (b : List ℕ) (before : ℕ) (rec : Record) → decode b before ≡ Ok rec → Accepted b before rec
unfolding decode
accepted b before rec h =
    record { known = grind (arith, nat_tests); room = grind (arith, nat_tests); kind = grind (arith, nat_tests); lean = grind (arith, nat_tests); value = grind (arith, nat_tests) }
