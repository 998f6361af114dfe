-- Records changed by their own core and line, and a message heard by one core more.
use Rattle.std.proofs.Common.{◌≡◌, ℕ, zero, suc, ◌+◌, ◌/◌, ◌%◌, ◌<◌, Bool, true, false, cond, ◌&&◌, eqb, ltb, List, [], ◌∷◌, length, get_or, set, sym, refl, ap, ◌∙◌, inl, inr, add-zero, zero-add, arith, length-set}
use Rattle.std.proofs.lemmas.List.{ext_get_or, get_or_past, get_or-set_same, get_or-set_other}
use Rattle.std.proofs.lemmas.Bool.{cases_eq, cases_lt, cond_both, lt-ltb}
use Rattle.std.proofs.lemmas.Bool.Decides.{nat_tests}
use Rattle.coherence.specs.declared.controller.LineRecord.{LineRecord}
use Rattle.coherence.specs.declared.states.Message.{Message}
use Rattle.coherence.specs.declared.states.Event.TheVariants.{Own, Other}
use Rattle.coherence.specs.Places.{AllHear, OthersStay, blank, place_of, record_at, with_record, changed_from, changed, heard_as, told, told_to, broadcast}
use Rattle.coherence.specs.Records.{moved}

module _ (change : ℕ → ℕ → LineRecord → LineRecord) where
  length_from : (i : ℕ) (rs : List LineRecord) → length (changed_from i change rs) ≡ length rs
  length_from i [] = refl
  length_from i (r ∷ more) = ap suc (length_from (i + 1) more)

  get_or_from : (i k : ℕ) (rs : List LineRecord) (d : LineRecord) → k < length rs → get_or (changed_from i change rs) k d ≡ change ((i + k) / 64) ((i + k) % 64) (get_or rs k d)
  get_or_from i k [] d within = absurd (omega arith)
  get_or_from i zero (r ∷ more) d within = ap (λ n. change (n / 64) (n % 64) r) (sym (add-zero i))
  get_or_from i (suc k) (r ∷ more) d within =
      let on : i + 1 + k ≡ i + suc k = omega arith in
      get_or_from (i + 1) k more d (omega arith) ∙ ap (λ n. change (n / 64) (n % 64) (get_or more k d)) on

  pub length_changed : (rs : List LineRecord) → length (changed change rs) ≡ length rs
  length_changed = length_from 0

  pub get_or_changed : (k : ℕ) (rs : List LineRecord) (d : LineRecord) → k < length rs → get_or (changed change rs) k d ≡ change (k / 64) (k % 64) (get_or rs k d)
  get_or_changed k rs d within = get_or_from 0 k rs d within ∙ ap (λ n. change (n / 64) (n % 64) (get_or rs k d)) (zero-add k)

  -- records are the changed ones, if each is
  pub is_changed :
      (rs others : List LineRecord) → length others ≡ length rs
      → ((k : ℕ) → k < length rs → get_or others k blank ≡ change (k / 64) (k % 64) (get_or rs k blank)) → others ≡ changed change rs
  is_changed rs others long each =
      ext_get_or blank others (changed change rs) (long ∙ sym (length_changed rs))
      (λ k h. let within : k < length rs = omega arith in each k within ∙ sym (get_or_changed k rs blank within))

-- whether the record at place k meets the message, if the cores below n hear it
abbrev hears : ℕ → ℕ → ℕ → Bool
hears n line k = eqb (k % 64) line && ltb (k / 64) n

pub told_none : (sender line : ℕ) (m : Message) (rs : List LineRecord) → rs ≡ told_to 0 sender line m rs
told_none sender line m rs = is_changed (told 0 sender line m) rs rs refl (λ k within. grind (arith, nat_tests))

-- core n's own record meets the message with core n, and the test at every other place stays
hears_own : (n line k : ℕ) → line < 64 → k ≡ place_of n line → (hears n line k ≡ false) × (hears (n + 1) line k ≡ true) × (k / 64 ≡ n)
hears_own n line k narrow here = (grind (arith, nat_tests), grind (arith, nat_tests), omega arith)

hears_other : (n line k : ℕ) → line < 64 → (k ≡ place_of n line → ⊥) → hears n line k ≡ hears (n + 1) line k
hears_other n line k narrow apart = grind (arith, nat_tests)

-- one core more hears the message
pub told_more :
    (sender line n : ℕ) (m : Message) (rs heard : List LineRecord) → line < 64 → heard ≡ told_to n sender line m rs
    → set heard (place_of n line) (moved (heard_as sender m n) (get_or heard (place_of n line) blank)) ≡ told_to (n + 1) sender line m rs
told_more sender line n m rs heard narrow is_told =
    is_changed (told (n + 1) sender line m) rs _ (length-set heard _ _ ∙ long)
    (λ k within.
    elim (cases_eq k (place_of n line)) [
      | inl here ↦
          let tests = hears_own n line k narrow here in
          let before : get_or heard k blank ≡ get_or rs k blank = at k within ∙ rw tests.0 in
          ap (λ p. get_or (set heard p (moved (heard_as sender m n) (get_or heard p blank))) k blank) (sym here)
          ∙ get_or-set_same heard k _ blank (omega (arith, long))
          ∙ ap (moved (heard_as sender m n)) before
          ∙ rw (tests.1, tests.2)
      | inr apart ↦ get_or-set_other heard (place_of n line) k _ blank apart ∙ at k within ∙ rw (hears_other n line k narrow apart)
    ])
  where
    long : length heard ≡ length rs
    long = ap length is_told ∙ length_changed (told n sender line m) rs

    at : (k : ℕ) → k < length rs → get_or heard k blank ≡ cond (hears n line k) (moved (heard_as sender m (k / 64)) (get_or rs k blank)) (get_or rs k blank)
    at k within =
        ap (λ l. get_or l k blank) is_told ∙ get_or_changed (told n sender line m) k rs blank within

-- ---- core by core and line by line

pub others_stay : (rs : List LineRecord) (core line : ℕ) (r : LineRecord) → line < 64 → OthersStay core line rs (with_record rs core line r)
others_stay rs core line r narrow c l small apart =
    get_or-set_other rs (place_of core line) (place_of c l) r blank
    (λ same. let across : c ≡ core = omega arith in apart (across, omega arith))

-- a record that is not there is I, and so it stays
blank_stays : (m : Message) (b : Bool) → moved (cond b (Own m) (Other m)) blank ≡ blank
blank_stays m b = grind arith

pub all_hear : (rs : List LineRecord) (sender line : ℕ) (m : Message) → AllHear sender line m rs (broadcast sender line m rs)
all_hear rs sender line m core l few small =
    elim (cases_lt (place_of core l) (length rs)) [
      | inl within ↦
          let across : place_of core l / 64 ≡ core = omega arith in
          let along : place_of core l % 64 ≡ l = omega arith in
          get_or_changed (told 8 sender line m) (place_of core l) rs blank within
          ∙ rw (across, along, lt-ltb core 8 few) (grind arith)
      | inr past ↦
          let none : record_at rs core l ≡ blank = get_or_past rs (place_of core l) blank past in
          get_or_past (broadcast sender line m rs) (place_of core l) blank (omega (arith, length_changed (told 8 sender line m) rs))
          ∙ sym (ap (λ r. cond (eqb l line) (moved (heard_as sender m core) r) r) none ∙ cond_both (eqb l line) _ _ (λ r. r ≡ blank) (λ _. blank_stays m (eqb core sender)) (λ _. refl))
    ]

-- .. and so are records that a broadcast left
pub all_heard : (rs after : List LineRecord) (sender line : ℕ) (m : Message) → after ≡ broadcast sender line m rs → AllHear sender line m rs after
all_heard rs after sender line m e = rw e (all_hear rs sender line m)
