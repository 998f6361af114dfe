-- A trace has no more records than bytes.
use Rattle.std.proofs.Common.{ℕ, zero, suc, ◌-◌, ◌≤◌, List, length, Some, None, Ok, Err, Option, Result, arith}
use Rattle.refusal.specs.declared.Reason.{Reason}
use Rattle.refusal.specs.declared.Refusal.{Refusal}
use Rattle.trace.specs.declared.Record.{Record}
use Rattle.trace.specs.Whole.{read_at, joined, followed, records_from, records_in}
use Rattle.listing.specs.Listings.{records_of}

one_more : (r : Record) (rest : Result (List Record) Refusal) (n : ℕ) → length (records_of rest) ≤ n → length (records_of (joined r rest)) ≤ suc n
one_more r (Ok rs) n h = omega arith
one_more r (Err f) n h = omega arith

after_read : (at : ℕ) (x : Result (Option (Record × ℕ)) Reason) (more : ℕ → ℕ → Result (List Record) Refusal) (n : ℕ)
    → ((next line : ℕ) → length (records_of (more next line)) ≤ n) → length (records_of (followed at x more)) ≤ suc n
after_read at (Ok None) more n h = omega arith
after_read at (Ok (Some (r, next))) more n h = one_more r (more next r.line) n (h next r.line)
after_read at (Err why) more n h = omega arith

within_turns : (turns : ℕ) (b : List ℕ) (at end before : ℕ) → length (records_of (records_from turns b at end before)) ≤ turns
unfolding records_from
within_turns zero b at end before = omega arith
within_turns (suc turns) b at end before =
    after_read at (read_at b at end before) (λ next line. records_from turns b next end line) turns (λ next line. within_turns turns b next end line)

pub no_more_than_bytes : (b : List ℕ) (at end before : ℕ) → length (records_of (records_in b at end before)) ≤ end - at
no_more_than_bytes b at end before = within_turns (end - at) b at end before
