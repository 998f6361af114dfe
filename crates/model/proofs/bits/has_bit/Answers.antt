use Rattle.std.proofs.Common.{◌^◌, ◌<◌, arith, pow_mono}
use native.Mathlib.Nat.{div-eq_of_lt}
use Rattle.std.proofs.lemmas.Bool.{le-ltb}
use Rattle.model.proofs.bits.has_bit.Goals as goal

-- the number has 64 bits
pub returns-else-k-lt64 : goal.returns-else-k-lt64
returns-else-k-lt64 c =
    let small : c.args.bits < 2 ^ c.args.k = omega (arith, pow_mono {i = 64} {j = c.args.k} (omega arith)) in
    rw (div-eq_of_lt small, le-ltb c.args.k 64 (omega arith))
