-- Two of these arbiters with the same numbers are the same: the invariant has one proof at most.
use Rattle.std.proofs.Common.{◌≡◌, ◌*◌, ◌<◌}
use mathlib.Core.HLevel.{is_prop→PathP}
use Rattle.std.proofs.Math.Bridge.{le_prop}
use Rattle.own_parts.specs.declared.control.ControlFirst.{ControlFirst}

pub same : (a b : ControlFirst) → a.cores ≡ b.cores → a.slot ≡ b.slot → a ≡ b
same a b p q =
    λ i. record { cores = p i; slot = q i; within = is_prop→PathP (λ j. q j < 2 * (p j).count) (λ j. le_prop) a.within b.within i }
