-- A record that is written is read back.
use Rattle.std.proofs.Common.{◌≡◌, ℕ, false, cond, not, ◌&&◌, ◌||◌, eqb, ltb, leb, List, ◌++◌, length, Ok, refl, ap, ◌∙◌, arith, length-append}
use Rattle.std.proofs.lemmas.Bool.{le-ltb}
use Rattle.std.proofs.lemmas.Bool.Decides.{nat_tests}
use Rattle.model.specs.declared.Kind.{Kind}
use Rattle.model.specs.Numbers.{kind_number, kind_of}
use Rattle.trace.specs.declared.Record.{Record}
use Rattle.trace.specs.Reading.{decode, size, map_of, gap_in, line_in, word_in, kind_in, strange_kind, redundant}
use Rattle.trace.specs.Writing.{encode, differs, Writable}
use Rattle.trace.proofs.Laid.{laid}

-- a field is what it was, present or absent
kept : (n absent m : ℕ) → m ≡ n → cond (differs n absent) m absent ≡ n
kept n absent m e = grind (arith, nat_tests)

-- a kind by its number
kind_back : (k : Kind) → kind_of (kind_number k) ≡ k
kind_back k = grind arith

kind_fine : (k : Kind) → (differs (kind_number k) 0 && not (eqb (kind_number k) 1 || eqb (kind_number k) 2)) ≡ false
kind_fine k = grind arith

-- what passes the tests of `decode` is read
decodes : (b : List ℕ) (before : ℕ) (r : Record) → leb 16 (map_of b) ≡ false → ltb (length b) (size (map_of b)) ≡ false → strange_kind b ≡ false
    → redundant b before ≡ false → gap_in b ≡ r.gap → line_in b before ≡ r.line → word_in b ≡ r.word → kind_of (kind_in b) ≡ r.kind → decode b before ≡ Ok r
unfolding decode
decodes b before r m t k s gap line word kind = rw (m, t, k, s, gap, line, word, kind)

-- a record that can be written is read back, whatever follows it
pub reads_back : (r : Record) (rest : List ℕ) (before : ℕ) → Writable r
    → (decode (encode r before ++ rest) before ≡ Ok r) × (size (map_of (encode r before ++ rest)) ≡ length (encode r before))
unfolding encode
reads_back r rest before fits =
    let b : List ℕ = encode r before ++ rest in
    let f = laid (differs r.gap 0) (differs r.line before) (differs r.word 0) (differs (kind_number r.kind) 0) r rest before in
    let gap : gap_in b ≡ r.gap = ap (λ x. x.2.0) f ∙ kept r.gap 0 _ (omega arith) in
    let line : line_in b before ≡ r.line = ap (λ x. x.2.1) f ∙ kept r.line before _ refl in
    let word : word_in b ≡ r.word = ap (λ x. x.2.2) f ∙ kept r.word 0 _ (omega arith) in
    let kind : kind_in b ≡ kind_number r.kind = ap (λ x. x.2.3) f ∙ kept (kind_number r.kind) 0 _ refl in
    let whole : size (map_of b) ≡ length (encode r before) = ap (λ x. x.3) f in
    let t : ltb (length b) (size (map_of b)) ≡ false = le-ltb (length b) (size (map_of b)) (rw whole (simp length-append (omega arith))) in
    let k : strange_kind b ≡ false = rw (kind, ap (λ x. x.1.3) f) (kind_fine r.kind) in
    let s : redundant b before ≡ false =
    rw (gap, line, word, kind, ap (λ x. x.1.0) f, ap (λ x. x.1.1) f, ap (λ x. x.1.2) f)
    (grind arith) in
    (decodes b before r (ap (λ x. x.0) f) t k s gap line word (ap kind_of kind ∙ kind_back r.kind), whole)
