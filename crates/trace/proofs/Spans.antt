-- A bundle's traces, one after another.
use Rattle.std.proofs.Common.{◌≡◌, ℕ, suc, ◌+◌, ◌-◌, ◌<◌, ◌≤◌, true, false, cond, ltb, List, [], length, get_or, set, replicate, Ok, Err, refl, arith}
use Rattle.std.proofs.lemmas.Grind.{common_steps}
use Rattle.refusal.specs.declared.Reason.TheVariants.{TrailingBytes}
use Rattle.refusal.specs.Refusals.{refusal, and_then}
use Rattle.model.specs.Bits.{bit_at}
use Rattle.trace.specs.declared.bundle.Span.{Span}
use Rattle.trace.specs.Reading.{map_of}
use Rattle.trace.specs.Whole.{records_from}
use Rattle.trace.specs.Bundle.{no_trace, span_at, spans_from, Readable}

-- one core's trace, and then those of the cores after it
pub spans_step : (b : List ℕ) (core at : ℕ) (spans : List Span) → core < 8
    → spans_from (8 - core) b core at spans
    ≡ cond (bit_at (map_of b) core)
    (and_then (span_at b at) (λ s. spans_from (8 - (core + 1)) b (core + 1) s.end (set spans core s)))
    (spans_from (8 - (core + 1)) b (core + 1) at spans)
unfolding spans_from
spans_step b core at spans h = let e : 8 - core ≡ suc (8 - (core + 1)) = omega arith in rw e

-- no core is left
pub spans_end : (b : List ℕ) (core at : ℕ) (spans : List Span) → 8 ≤ core
    → spans_from (8 - core) b core at spans ≡ cond (ltb at (length b)) (Err (refusal TrailingBytes at)) (Ok (record { spans = spans }))
unfolding spans_from
spans_end b core at spans h = let z : 8 - core ≡ 0 = omega arith in rw z

none_there : (core : ℕ) → get_or (replicate 8 no_trace) core no_trace ≡ no_trace
none_there core = grind (arith, common_steps)

readable_none : (b : List ℕ) (core : ℕ) → Readable b (get_or (replicate 8 no_trace) core no_trace)
unfolding records_from
readable_none b core = rw (none_there core) (record { records = []; read = refl; counted = refl; rewritten = refl })

readable_set : (b : List ℕ) (spans : List Span) (core : ℕ) (s : Span) → core < length spans → Readable b s
    → ((k : ℕ) → Readable b (get_or spans k no_trace)) → (k : ℕ) → Readable b (get_or (set spans core s) k no_trace)
readable_set b spans core s l one others k = grind (arith, common_steps, others k)

-- the traces of the cores below `core` are checked, and those of the others give the rest of the answer
pub record Checked (b : List ℕ) (core at : ℕ) (spans : List Span) : Type 0 where
  pub eight : length spans ≡ 8
  pub answer : spans_from (8 - core) b core at spans ≡ spans_from 8 b 0 1 (replicate 8 no_trace)
  pub readable : (k : ℕ) → Readable b (get_or spans k no_trace)

pub none_checked : (b : List ℕ) → Checked b 0 1 (replicate 8 no_trace)
none_checked b = record { eight = refl; answer = refl; readable = readable_none b }

-- one core more, without a trace or with one
pub skips : (b : List ℕ) (core at : ℕ) (spans : List Span) → core < 8 → bit_at (map_of b) core ≡ false
    → Checked b core at spans → Checked b (core + 1) at spans
skips b core at spans l h c = record { eight = c.eight; answer = grind (arith, spans_step, c.answer); readable = c.readable }

pub takes : (b : List ℕ) (core at : ℕ) (spans : List Span) (s : Span) → core < 8 → bit_at (map_of b) core ≡ true → Ok s ≡ span_at b at → Readable b s
    → Checked b core at spans → Checked b (core + 1) s.end (set spans core s)
takes b core at spans s l h e r c = record {
  eight = grind (arith, common_steps);
  answer = grind (arith, spans_step, c.answer);
  readable = readable_set b spans core s (omega arith) r c.readable;
}
