-- Bits from N up count for nothing: whoever looks at the bits of cores alone may leave them out.
use Rattle.std.specs.Prelude.{◌≡◌, ℕ, zero, suc, ◌+◌, ◌*◌, ◌/◌, ◌%◌, ◌^◌, ◌<◌, nat_eq, refl}
use Rattle.std.proofs.Common.{sym, ap, ◌∙◌, arith}
use Rattle.std.proofs.lemmas.Nat.Bits.{bit_at_cat_low}
use Rattle.model.specs.Bits.{bit}
use Rattle.arbiter.specs.Granting.{ready_at}
use Rattle.arbiter.specs.declared.turn.Turn.{Turn}
use Rattle.arbiter.specs.Rounds.{after, scan}
use Rattle.arbiter.specs.Turns.{after_is_core, first_of, own_of}

pub ready_by_cores : (n ready core : ℕ) → core < n → ready_at (ready % 2 ^ n) core ≡ ready_at ready core
ready_by_cores n ready core l =
    let whole : ready / 2 ^ n * 2 ^ n + ready % 2 ^ n ≡ ready = omega arith in
    ap (λ (bit : ℕ). nat_eq bit 1) (sym (bit_at_cat_low (ready / 2 ^ n) n (ready % 2 ^ n) core l) ∙ ap (λ bits. bit bits core) whole)

scan_by_cores : (n ready from k : ℕ) → from < n → scan n (ready % 2 ^ n) from k ≡ scan n ready from k
scan_by_cores n ready from zero l = refl
scan_by_cores n ready from (suc k) l =
    let rest : scan n (ready % 2 ^ n) (after n from) k ≡ scan n ready (after n from) k = scan_by_cores n ready (after n from) k (after_is_core n from (omega arith)) in
    rw (ready_by_cores n ready from l, rest)

pub own_by_cores : (t : Turn) (ready : ℕ) → own_of t (ready % 2 ^ t.cores.count) ≡ own_of t ready
own_by_cores t ready = rw (ready_by_cores t.cores.count ready t.core t.within)

pub first_by_cores : (t : Turn) (ready : ℕ) → first_of t (ready % 2 ^ t.cores.count) ≡ first_of t ready
first_by_cores t ready = scan_by_cores t.cores.count ready t.core t.cores.count t.within
