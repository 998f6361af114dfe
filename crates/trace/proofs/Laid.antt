-- A record's bytes by the fields that are present.
use Rattle.std.proofs.Common.{◌≡◌, ℕ, ◌+◌, Bool, true, false, cond, leb, List, [], ◌++◌, ◌≤◌, length, Option, is_some, unwrap_or, refl, ap, arith, length-append}
use Rattle.std.proofs.lemmas.Grind.{common_steps}
use Rattle.std.specs.Bool.{then_some}
use Rattle.model.specs.Numbers.{kind_number}
use Rattle.trace.specs.declared.Record.{Record}
use Rattle.trace.specs.Reading.{size, map_of, has, big_endian, gap_in, line_in, word_in, kind_in}
use Rattle.trace.specs.Fields.{map_of_fields, with_fields}
use Rattle.trace.specs.Writing.{bytes_of, laid_out, differs, encode}

-- what is read of them, whatever follows
abbrev pub Seen : Type 0
Seen = Bool × (Bool × Bool × Bool × Bool) × (ℕ × ℕ × ℕ × ℕ) × ℕ

pub laid : (g l w k : Bool) (r : Record) (rest : List ℕ) (before : ℕ) → let b : List ℕ = laid_out g l w k r ++ rest in
    ◌≡◌ {A = Seen}
    (leb 16 (map_of b), (has b 0, has b 1, has b 2, has b 3), (gap_in b, line_in b before, word_in b, kind_in b), size (map_of b)) (
      false,
      (g, l, w, k),
      (cond g (big_endian 2 (bytes_of 2 r.gap) 0) 0, cond l r.line before, cond w (big_endian 4 (bytes_of 4 r.word) 0) 0, cond k (kind_number r.kind) 0),
      length (laid_out g l w k r),
    )
laid true true true true r rest before = refl
laid true true true false r rest before = refl
laid true true false true r rest before = refl
laid true true false false r rest before = refl
laid true false true true r rest before = refl
laid true false true false r rest before = refl
laid true false false true r rest before = refl
laid true false false false r rest before = refl
laid false true true true r rest before = refl
laid false true true false r rest before = refl
laid false true false true r rest before = refl
laid false true false false r rest before = refl
laid false false true true r rest before = refl
laid false false true false r rest before = refl
laid false false false true r rest before = refl
laid false false false false r rest before = refl

is_some-then_some : {X : Type 0} (present : Bool) (x : X) → is_some (then_some present x) ≡ present
is_some-then_some true x = refl
is_some-then_some false x = refl

unwrap_or-then_some : {X : Type 0} (present : Bool) (x none : X) → unwrap_or (then_some present x) none ≡ cond present x none
unwrap_or-then_some true x none = refl
unwrap_or-then_some false x none = refl

-- every record takes a byte
pub one_le_encode : (r : Record) (before : ℕ) → 1 ≤ length (encode r before)
unfolding encode
one_le_encode r before = simp length-append (omega arith)

pub length_with_fields : (gap line word kind : Option (List ℕ)) → length (with_fields gap line word kind)
    ≡ 1 + (length (unwrap_or gap []) + (length (unwrap_or line []) + (length (unwrap_or word []) + length (unwrap_or kind []))))
length_with_fields gap line word kind = grind (arith, common_steps)

-- a record's bytes by its fields, each of which may be absent
module _ (r : Record) (before : ℕ) (gap line word kind : Option (List ℕ))
    (is_gap : gap ≡ then_some (differs r.gap 0) (bytes_of 2 r.gap)) (is_line : line ≡ then_some (differs r.line before) (bytes_of 1 r.line))
    (is_word : word ≡ then_some (differs r.word 0) (bytes_of 4 r.word))
    (is_kind : kind ≡ then_some (differs (kind_number r.kind) 0) (bytes_of 1 (kind_number r.kind))) where
  pub encode_fields : with_fields gap line word kind ≡ encode r before
  unfolding encode
  encode_fields = grind (arith, is_some-then_some, unwrap_or-then_some)

  pub size_fields : size (map_of_fields gap line word kind) ≡ length (encode r before)
  unfolding encode
  size_fields =
      rw (is_gap, is_line, is_word, is_kind) (simp is_some-then_some
      (ap (λ x. x.3) (laid (differs r.gap 0) (differs r.line before) (differs r.word 0) (differs (kind_number r.kind) 0) r [] before)))
