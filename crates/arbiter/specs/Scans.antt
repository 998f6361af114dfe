-- Steps round the cores, and what a scan of the cores finds.
use Rattle.std.specs.Prelude.{◌≡◌, ℕ, zero, suc, ◌+◌, ◌-◌, ◌%◌, ◌<◌, true, false, cond, Some, None, ◌≢◌, nat_le}
use Rattle.std.proofs.Common.{sym, ap, ◌∙◌, inl, inr, mod-eq_of_lt, mod-lt, arith}
use Rattle.std.proofs.Math.Nat.{add-mod_right}
use Rattle.std.proofs.lemmas.Bool.{cases_Bool, cases_eq, cases_order, both_ways}
use Rattle.std.proofs.lemmas.Bool.Decides.{nat_tests}
use Rattle.arbiter.specs.Granting.{ready_at}
use Rattle.arbiter.specs.Rounds.{after, steps, scan, own_ready}
use Rattle.arbiter.specs.Turns.{after_is_core}

-- ---- steps

-- by whether the way leads past the last core
pub steps_by_way : (n from core : ℕ) → from < n → core < n → steps n from core ≡ cond (nat_le from core) (core - from) (core + n - from)
steps_by_way n from core h k =
    let round : core - from + n ≡ core + n - from → (core + n - from) % n ≡ core - from = λ e. ap (λ (x : ℕ). x % n) (sym e) ∙ add-mod_right (core - from) n ∙ mod-eq_of_lt (omega arith) in
    let short : core + n - from < n → (core + n - from) % n ≡ core + n - from = mod-eq_of_lt in
    grind (arith, nat_tests)

pub steps_below : (n from core : ℕ) → from < n → core < n → steps n from core < n
steps_below n from core h k = mod-lt (core + n - from) (omega arith)

steps_own : (n core : ℕ) → core < n → steps n core core ≡ 0
steps_own n core h = let e = steps_by_way n core core h h in grind (arith, nat_tests)

-- one step on, every other core is one step nearer
pub steps_after : (n from core : ℕ) → from < n → core < n → (core ≢ from) → steps n (after n from) core + 1 ≡ steps n from core
steps_after n from core h k ne =
    let e = steps_by_way n from core h k in
    let f = steps_by_way n (after n from) core (after_is_core n from (omega arith)) k in
    grind (arith, nat_tests)

-- past g, every core beyond g is nearer
steps_past : (n from g core : ℕ) → from < n → g < n → core < n → steps n from g < steps n from core → steps n (after n g) core < steps n from core
steps_past n from g core h k l far =
    let e = steps_by_way n from g h k in
    let e' = steps_by_way n from core h l in
    let f = steps_by_way n (after n g) core (after_is_core n g (omega arith)) l in
    grind (arith, nat_tests)

steps_same : (n from g core : ℕ) → from < n → g < n → core < n → steps n from g ≡ steps n from core → g ≡ core
steps_same n from g core h k l same =
    let e = steps_by_way n from g h k in
    let e' = steps_by_way n from core h l in
    grind (arith, nat_tests)

-- ---- scans

pub scan_here : (n ready core k : ℕ) → 0 < k → ready_at ready core ≡ true → scan n ready core k ≡ Some core
scan_here n ready core zero h t = absurd (omega arith)
scan_here n ready core (suc k) h t = rw t

pub scan_on : (n ready core k : ℕ) → 0 < k → ready_at ready core ≡ false → scan n ready core k ≡ scan n ready (after n core) (k - 1)
scan_on n ready core zero h t = absurd (omega arith)
scan_on n ready core (suc k) h t = let e : suc k - 1 ≡ k = omega arith in rw (t, e)

-- what a scan found: a ready core, and none nearer that is ready
pub record Found (n ready from g : ℕ) : Type 0 where
  pub is_core : g < n
  pub is_ready : ready_at ready g ≡ true
  pub nearest : (core : ℕ) → core < n → steps n from core < steps n from g → ready_at ready core ≡ false

module _ (n ready : ℕ) where
  pub scan_found : (k from g : ℕ) → from < n → scan n ready from k ≡ Some g → Found n ready from g
  scan_found zero from g h e = cc
  scan_found (suc k) from g h e =
      elim (cases_Bool (ready_at ready from)) [
        | inl t ↦
            let same : g ≡ from = let f = rw t at e in cc in
            record {
              is_core = rw same h;
              is_ready = rw same t;
              nearest = λ core l near. let z : steps n from g ≡ 0 = rw same (steps_own n from h) in absurd (omega arith);
            }
        | inr t ↦
            let rest = scan_found k (after n from) g (after_is_core n from (omega arith)) (rw t at e) in
            let apart : g ≡ from → ⊥ = λ same. both_ways (ready_at ready from) t (rw same at rest.is_ready) in
            let far = steps_after n from g h rest.is_core apart in
            record {
              is_core = rest.is_core;
              is_ready = rest.is_ready;
              nearest = λ core l near.
                  elim (cases_eq core from) [
                    | inl same ↦ rw same t
                    | inr ne ↦ rest.nearest core l (omega (arith, steps_after n from core h l ne))
                  ];
            }
      ]

  pub scan_none : (k from core : ℕ) → from < n → core < n → scan n ready from k ≡ None → steps n from core < k → ready_at ready core ≡ false
  scan_none zero from core h l e near = absurd (omega arith)
  scan_none (suc k) from core h l e near =
      elim (cases_Bool (ready_at ready from)) [
        | inl t ↦ let f = rw t at e in cc
        | inr t ↦
            elim (cases_eq core from) [
              | inl same ↦ rw same t
              | inr ne ↦ scan_none k (after n from) core (after_is_core n from (omega arith)) l (rw t at e) (omega (arith, steps_after n from core h l ne))
            ]
      ]

pub own_found : (ready own g : ℕ) → own_ready ready own ≡ Some g → (g ≡ own) × (ready_at ready g ≡ true)
own_found ready own g e = grind (arith, nat_tests)

pub own_here : (ready own : ℕ) → ready_at ready own ≡ true → own_ready ready own ≡ Some own
own_here ready own t = rw t

-- past the core that was found, every other ready core is nearer
pub nearer_past : (n ready from g core : ℕ) → from < n → Found n ready from g → core < n → ready_at ready core ≡ true → (g ≢ core) → steps n (after n g) core < steps n from core
nearer_past n ready from g core h f l r ne =
    elim (cases_order (steps n from g) (steps n from core)) [
      | inl same ↦ absurd (ne (steps_same n from g core h f.is_core l same))
      | inr (inl far) ↦ steps_past n from g core h f.is_core l far
      | inr (inr near) ↦ absurd (both_ways (ready_at ready core) (f.nearest core l near) r)
    ]
