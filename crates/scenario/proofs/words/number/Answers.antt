use Rattle.std.proofs.Common.{None, arith}
use Rattle.std.proofs.lemmas.Grind.{common_steps}
use Rattle.scenario.proofs.Limits.{onward, numeral_some}
use Rattle.scenario.proofs.words.number.Goals as goal

pub returns-in_err-value : goal.returns-in_err-value
returns-in_err-value c =
    let next = onward 18446744073709551615 c.args.base c.loop-b.value c.args.word.now c.loop-b.b-index None c.loop-b-test.true c.in_err-value.ensures.value in
    grind (arith, common_steps, next, numeral_some c.args.base c.args.word.now)

pub returns : goal.returns
returns c = grind (arith, common_steps, numeral_some c.args.base c.args.word.now)
