-- The two round trips of whole traces.
use Rattle.std.proofs.Common.{◌≡◌, ℕ, zero, suc, ◌+◌, ◌-◌, ◌<◌, ◌≤◌, List, [], ◌∷◌, ◌++◌, length, take, drop, Some, None, Ok, Err, Option, Result, sym, refl, ap, ◌∙◌, append-nil, arith, length-append}
use Rattle.std.proofs.lemmas.Bool.Decides.{nat_tests}
use Rattle.std.proofs.lemmas.Grind.{common_steps}
use Rattle.std.proofs.lemmas.List.{take-append-drop, length-take-le}
use Rattle.refusal.specs.declared.Reason.{Reason}
use Rattle.refusal.specs.declared.Refusal.{Refusal}
use Rattle.refusal.specs.Refusals.{and_then}
use Rattle.model.specs.declared.Kind.{Kind}
use Rattle.model.specs.Numbers.{kind_check}
use Rattle.trace.specs.declared.Record.{Record}
use Rattle.trace.specs.declared.writer.Draft.{Draft}
use Rattle.trace.specs.Reading.{size, map_of}
use Rattle.trace.specs.Writing.{encode, put, Writable, unless_stray, record_from, placed, filled}
use Rattle.trace.specs.Whole.{window, read_at, joined, followed, records_from, records_in, encode_all, Written, records_for, ReadsBack, Rewritten, SameBytes}
use Rattle.trace.proofs.Laid.{one_le_encode}
use Rattle.trace.proofs.ReadBack.{reads_back}
use Rattle.trace.proofs.Canonical.{canonical}
use Rattle.trace.proofs.Windows.{Bytes, window_drop, window_between, window_bytes, window_over, window_all}
use Rattle.trace.proofs.Buffers.{put_none, put_then}
use Rattle.trace.proofs.Steps.{has_read, none_read, read_none, read_some, unrolled}

-- a list of records that can be written
abbrev AllWritable : List Record → Type 0
AllWritable [] = Unit {0}
AllWritable (r ∷ rs) = Writable r × AllWritable rs

-- records as bytes read back the same, whatever stands before and after them
encoded_reads_back : (front rest : List ℕ) (rs : List Record) (before : ℕ) → AllWritable rs
    → records_in (front ++ (encode_all rs before ++ rest)) (length front) (length front + length (encode_all rs before)) before ≡ Ok rs
encoded_reads_back front rest [] before w = grind (arith, unrolled, read_none)
encoded_reads_back front rest (r ∷ rs) before (w, ws) =
    let e : List ℕ = encode r before in
    let x : List ℕ = encode_all rs r.line in
    let b : List ℕ = front ++ ((e ++ x) ++ rest) in
    let at : ℕ = length front in
    let end : ℕ = length front + length (e ++ x) in
    let back = reads_back r x before w in
    let inside : at < end = simp length-append (omega (arith, back.1)) in
    let read = read_some b (e ++ x) at end before (length e) (Ok r) inside (sym (window_between front (e ++ x) rest)) (sym back.0) (sym back.1) in
    let more : records_in b (at + length e) end r.line ≡ Ok rs =
    grind (arith, common_steps, encoded_reads_back (front ++ e) rest rs r.line ws) in
    grind (arith, unrolled b at end before)

-- records that were put at a place are a trace there
put_reads_back : (out x : List ℕ) (at next : ℕ) (rs : List Record) (before : ℕ) → at ≤ length out
    → next ≡ at + length (encode_all rs before) → x ≡ put out at (encode_all rs before) → AllWritable rs → records_in x at next before ≡ Ok rs
unfolding put
put_reads_back out x at next rs before h n e w =
    let front : List ℕ = take at out in
    let rest : List ℕ = drop (at + length (encode_all rs before)) out in
    let m : length front ≡ at = length-take-le at out h in
    grind (arith, encoded_reads_back front rest rs before w)

pub record_reads_back : (out x : List ℕ) (at next : ℕ) (r : Record) (before : ℕ) → at ≤ length out
    → next ≡ at + length (encode r before) → x ≡ put out at (encode r before) → Writable r → records_in x at next before ≡ Ok (r ∷ [])
record_reads_back out x at next r before h n e w =
    put_reads_back out x at next (r ∷ []) before h (rw append-nil n) (rw append-nil e) (w, tt)

-- what a call that wrote a draft says
pub record Wrote (out : List ℕ) (at before : ℕ) (d : Draft) (n : ℕ) : Type 0 where
  pub rec : Record
  pub is : record_from d ≡ Ok rec
  pub fine : Writable rec
  pub line : rec.line ≡ d.line
  pub room : at + length (encode rec before) ≤ length out
  pub place : n ≡ at + length (encode rec before)
  pub bytes : filled (record_from d) out at before ≡ put out at (encode rec before)

checked : (x : Result Kind Refusal) (d : Draft) (r : Record) → and_then x (λ k. unless_stray (record { gap = d.gap; line = d.line; word = d.word; kind = k })) ≡ Ok r
    → Writable r × (r.line ≡ d.line)
checked (Ok k) d r h =
    (grind arith, grind arith)
checked (Err f) d r h = cc

wrote_by : (out : List ℕ) (at before : ℕ) (d : Draft) (n : ℕ) (x : Result Record Refusal) → record_from d ≡ x → placed x out at before ≡ Ok n → Wrote out at before d n
wrote_by out at before d n (Ok r) e h =
    let c = checked (kind_check d.kind) d r e in
    record {
      rec = r;
      is = e;
      fine = c.0;
      line = c.1;
      room = grind (arith, nat_tests, one_le_encode r before);
      place = grind (arith, nat_tests);
      bytes = grind (arith, nat_tests);
    }
wrote_by out at before d n (Err f) e h = cc

wrote : (out : List ℕ) (at before : ℕ) (d : Draft) (n : ℕ) → placed (record_from d) out at before ≡ Ok n → Wrote out at before d n
wrote out at before d n h = wrote_by out at before d n (record_from d) refl h

-- drafts written one after another put their records' bytes one after another
record Chain (out : List ℕ) (at before : ℕ) (ds : List Draft) (out' : List ℕ) (next : ℕ) : Type 0 where
  rs : List Record
  are : records_for ds ≡ Ok rs
  fine : AllWritable rs
  place : next ≡ at + length (encode_all rs before)
  bytes : out' ≡ put out at (encode_all rs before)

chain : (out : List ℕ) (at before : ℕ) (ds : List Draft) (out' : List ℕ) (next : ℕ) → Written out at before ds out' next → Chain out at before ds out' next
chain out at before [] out' next (e, n) = record { rs = []; are = refl; fine = tt; place = omega arith; bytes = e ∙ sym (put_none out at) }
chain out at before (d ∷ ds) out' next (n, p, w) =
    let one = wrote out at before d n p in
    let more = chain (filled (record_from d) out at before) n d.line ds out' next w in
    let e : List ℕ = encode one.rec before in
    let x : List ℕ = encode_all more.rs one.rec.line in
    let same : encode_all more.rs d.line ≡ x = ap (encode_all more.rs) (sym one.line) in
    record {
      rs = one.rec ∷ more.rs;
      are = grind arith;
      fine = (one.fine, more.fine);
      place = grind (arith, common_steps);
      bytes = put_then out at e one.room (filled (record_from d) out at before) out' n x one.bytes one.place (more.bytes ∙ ap (put _ n) same);
    }

pub written_reads_back : ReadsBack
written_reads_back out at before [] out' next (e, n) = grind (arith, unrolled, read_none)
written_reads_back out at before (d ∷ ds) out' next (n, p, w) =
    let one = wrote out at before d n p in
    let all = chain out at before (d ∷ ds) out' next (n, p, w) in
    put_reads_back out out' at next all.rs before (omega (arith, one.room)) all.place all.bytes all.fine ∙ sym all.are

-- the records that follow one
joined_ok : (r : Record) (y : Result (List Record) Refusal) (rs : List Record) → joined r y ≡ Ok rs → (qs : List Record) × (y ≡ Ok qs) × (r ∷ qs ≡ rs)
joined_ok r (Ok qs) rs h = (qs, refl, cc)
joined_ok r (Err f) rs h = cc

-- one record of an accepted trace, where those after it are written again as they stand
rewrites_one : (b : List ℕ) (at end before : ℕ) (x : Result (Option (Record × ℕ)) Reason) (more : ℕ → ℕ → Result (List Record) Refusal) (rs : List Record)
    → Bytes b → read_at b at end before ≡ x → followed at x more ≡ Ok rs
    → ((next line : ℕ) (qs : List Record) → at < next → more next line ≡ Ok qs → encode_all qs line ≡ window b next end)
    → encode_all rs before ≡ window b at end
rewrites_one b at end before (Ok None) more rs h e k rest = grind (arith, window_over, none_read)
rewrites_one b at end before (Ok (Some (r, next))) more rs h e k rest =
    let read = has_read b at end before r next e in
    let w : List ℕ = window b at end in
    let n : ℕ = size (map_of w) in
    let j = joined_ok r (more next r.line) rs k in
    let one : take n w ≡ encode r before = canonical w before r (window_bytes b at end h) read.decoded in
    let others : encode_all j.0 r.line ≡ drop n w = grind (arith, rest next r.line j.0 read.forward j.1, window_drop b at end n) in
    ap (λ l. encode_all l before) (sym j.2) ∙ rw (← one, others) (take-append-drop n w)
rewrites_one b at end before (Err why) more rs h e k rest = cc

rewrites_from : (turns : ℕ) (b : List ℕ) (at end before : ℕ) (rs : List Record) → Bytes b → end - at ≤ turns → records_from turns b at end before ≡ Ok rs
    → encode_all rs before ≡ window b at end
unfolding records_from
rewrites_from zero b at end before rs h t k = grind (arith, window_over)
rewrites_from (suc turns) b at end before rs h t k =
    rewrites_one b at end before (read_at b at end before) _ rs h refl k
    (λ next line qs f e. rewrites_from turns b next end line qs h (omega arith) e)

-- an accepted trace, written again from its records, has the same bytes
pub rewrites_in : (b : List ℕ) (at end : ℕ) → Bytes b → Rewritten b at end
rewrites_in b at end h rs e = rewrites_from (end - at) b at end 0 rs h (omega arith) e

pub accepted_rewrites : (b : List ℕ) → Bytes b → SameBytes b
accepted_rewrites b h rs e = rewrites_in b 0 (length b) h rs e ∙ window_all b
