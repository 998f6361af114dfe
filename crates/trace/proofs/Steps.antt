-- The records of a trace, one read after another.
use Rattle.std.proofs.Common.{◌≡◌, ℕ, zero, suc, ◌+◌, ◌-◌, ◌<◌, ◌≤◌, List, Some, None, Ok, Option, Result, refl, ◌∙◌, arith}
use Rattle.std.proofs.lemmas.Bool.Decides.{nat_tests}
use Rattle.refusal.specs.declared.Reason.{Reason}
use Rattle.refusal.specs.declared.Refusal.{Refusal}
use Rattle.trace.specs.declared.Record.{Record}
use Rattle.trace.specs.declared.reader.TraceReader.{TraceReader}
use Rattle.trace.specs.Reader.{answer, after, remaining, taken}
use Rattle.trace.specs.Reading.{decode, size, map_of}
use Rattle.trace.specs.Whole.{window, ended, read_at, followed, records_from, records_in}
use Rattle.trace.proofs.Accepted.{accepted}
use Rattle.trace.proofs.Windows.{window_length}

-- the parts of a read that found a record
pub record Read (b : List ℕ) (at end before : ℕ) (r : Record) (next : ℕ) : Type 0 where
  pub inside : at < end
  pub decoded : decode (window b at end) before ≡ Ok r
  pub place : next ≡ at + size (map_of (window b at end))
  pub forward : at < next
  pub within : next ≤ end

pub has_read : (b : List ℕ) (at end before : ℕ) (r : Record) (next : ℕ) → read_at b at end before ≡ Ok (Some (r, next)) → Read b at end before r next
unfolding read_at
has_read b at end before r next h =
    let w : List ℕ = window b at end in
    let inside : at < end = grind (arith, nat_tests) in
    let decoded : decode w before ≡ Ok r = grind (arith, nat_tests) in
    let place : next ≡ at + size (map_of w) = grind (arith, nat_tests) in
    let a = accepted w before r decoded in
    record { inside = inside; decoded = decoded; place = place; forward = omega arith; within = omega (arith, a.room, window_length b at end) }

-- at the end nothing is read
pub read_none : (b : List ℕ) (at end before : ℕ) → end ≤ at → read_at b at end before ≡ Ok None
unfolding read_at
read_none b at end before h = grind (arith, nat_tests)

-- and only there
pub none_read : (b : List ℕ) (at end before : ℕ) → read_at b at end before ≡ Ok None → end ≤ at
unfolding read_at
none_read b at end before h = grind (arith, nat_tests)

-- before the end what is read is what the bytes up to the end begin with
pub read_some : (b w : List ℕ) (at end before n : ℕ) (x : Result Record Reason) → at < end → w ≡ window b at end → x ≡ decode w before → n ≡ size (map_of w)
    → ended x (at + n) ≡ read_at b at end before
unfolding read_at
read_some b w at end before n x h e f g = grind (arith, nat_tests)

-- what follows a read depends on what it goes on with
follow_same : (at : ℕ) (x : Result (Option (Record × ℕ)) Reason) (f g : ℕ → ℕ → Result (List Record) Refusal)
    → ((r : Record) (next : ℕ) → x ≡ Ok (Some (r, next)) → f next r.line ≡ g next r.line) → followed at x f ≡ followed at x g
follow_same at x f g h = grind arith

-- as many turns as bytes are enough
enough : (t s : ℕ) (b : List ℕ) (at end before : ℕ) → end - at ≤ t → end - at ≤ s → records_from t b at end before ≡ records_from s b at end before
unfolding records_from
enough zero zero b at end before p q = refl
enough zero (suc s) b at end before p q = grind (arith, read_none)
enough (suc t) zero b at end before p q = grind (arith, read_none)
enough (suc t) (suc s) b at end before p q =
    follow_same at (read_at b at end before) _ _ (λ r next e.
    let f : at < next = (has_read b at end before r next e).forward in
    enough t s b next end r.line (omega arith) (omega arith))

-- the records from a place on are the one that is read there and those after it
pub unrolled : (b : List ℕ) (at end before : ℕ)
    → records_in b at end before ≡ followed at (read_at b at end before) (λ next line. records_in b next end line)
unfolding records_from
unrolled b at end before =
    enough (end - at) (suc (end - at)) b at end before (omega arith) (omega arith)
    ∙ follow_same at (read_at b at end before) _ _ (λ r next e.
    let f : at < next = (has_read b at end before r next e).forward in
    enough (end - at) (end - next) b next end r.line (omega arith) (omega arith))

-- what a read gives and leaves are the records that were left
pub remaining_taken : (t : TraceReader) → remaining t ≡ taken (answer t) (remaining (after t))
remaining_taken t = grind (arith, unrolled)
