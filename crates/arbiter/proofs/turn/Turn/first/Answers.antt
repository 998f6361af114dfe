use Rattle.std.proofs.Common.{◌≡◌, ℕ, ◌+◌, ◌-◌, false, inl, inr, sym, ap, ◌∙◌, arith, rules}
use Rattle.std.specs.Prelude.{is_some}
use Rattle.std.proofs.lemmas.Bool.{cases_Bool}
use Rattle.arbiter.specs.Granting.{ready_at}
use Rattle.arbiter.specs.Rounds.{after, own_ready}
use Rattle.arbiter.specs.Scans.{scan_on}
use Rattle.arbiter.proofs.turn.Turn.first.Goals as goal

own_none : (ready core : ℕ) → is_some (own_ready ready core) ≡ false → ready_at ready core ≡ false
own_none ready core e =
    elim (cases_Bool (ready_at ready core)) [
      | inl t ↦ let f = rw t at e in cc
      | inr t ↦ t
    ]

pub loop-preserved : goal.loop-preserved
loop-preserved c =
    let n = c.args.self.now.cores.count in
    let core = c.loop.turn.core in
    let same = c.loop.invariant.0 in
    let passed = own_none c.args.ready core (ap is_some (sym c.own.ensures) ∙ search rules) in
    let on = scan_on n c.args.ready core (n - c.loop.counter) (omega arith) passed in
    let left : n - (c.loop.counter + 1) ≡ n - c.loop.counter - 1 = omega arith in
    let next : c.passed-turn.result.core ≡ after n core = ap (λ t. t.core) c.passed-turn.ensures ∙ ap (λ cores. after cores.count core) same in
    (ap (λ t. t.cores) c.passed-turn.ensures ∙ same, rw (next, left) (sym on ∙ c.loop.invariant.1))
