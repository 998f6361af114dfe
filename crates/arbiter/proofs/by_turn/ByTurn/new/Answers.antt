use Rattle.std.proofs.Common.{◌≡◌, ℕ, List, [], ◌∷◌, Option, refl, ap, ◌∙◌}
use Rattle.arbiter.specs.declared.by_turn.ByTurn.{ByTurn}
use Rattle.arbiter.specs.declared.turn.Turn.{Turn}
use Rattle.arbiter.specs.Granting.{grants}
use Rattle.arbiter.specs.Shipped.{turn_moves, turn_picks}
use Rattle.arbiter.proofs.by_turn.ByTurn.new.Goals as goal

-- an arbiter by turns answers as its turns do
module _ {R : Type 0} (picks : Turn → ℕ → Option ℕ) (passes : Turn → Option ℕ → Turn) where
  answers_of_turns : (readies : List ℕ) (a : ByTurn R) → grants (turn_picks picks) (turn_moves picks passes) a readies ≡ grants picks (λ t ready. passes t (picks t ready)) a.turn readies
  answers_of_turns [] a = refl
  answers_of_turns (ready ∷ later) a = ap (λ answers. picks a.turn ready ∷ answers) (answers_of_turns later (turn_moves picks passes a ready))

pub returns-clause-rule : goal.returns-clause-rule
returns-clause-rule g c readies =
    let rule = g.R.TurnRule in
    let made = c.new-turn.ensures in
    answers_of_turns rule.picks rule.passes readies _
    ∙ g.met.R.TurnRule.turn_law.in_order c.new-turn.result made.1 readies
    ∙ ap (λ cores. rule.order cores.count readies) made.0
