use Rattle.std.proofs.Common.{ℕ, ◌%◌, ◌^◌, ◌<◌, eqb, sym, ap, ◌∙◌, arith}
use Rattle.std.proofs.Math.Nat.{div-eq_of_lt}
use Rattle.std.proofs.Math.Pow.{pow_mono}
use Rattle.std.proofs.lemmas.Bool.{le-ltb}
use Rattle.wire.proofs.mask.names.Goals as goal

pub returns-else-replica-lt16 : goal.returns-else-replica-lt16
returns-else-replica-lt16 c =
    let high = pow_mono c.if-replica-lt16.false in
    let small : c.args.mask < 2 ^ c.args.replica = omega (arith, high, c.ranges.mask.fits) in
    le-ltb c.args.replica 16 c.if-replica-lt16.false ∙ sym (ap (λ (k : ℕ). eqb (k % 2) 1) (div-eq_of_lt small))
