use Rattle.std.proofs.Common.{◌≡◌, ◌*◌, ◌/◌, length, sym, ◌∙◌, arith}
use Rattle.std.proofs.lemmas.Grind.{common_steps}
use Rattle.scenario.proofs.Pairs.{in_pairs, odd_digit, one_more, option_map-nil}
use Rattle.scenario.proofs.words.bytes.Goals as goal

pub returns-in_default : goal.returns-in_default
returns-in_default c = sym (odd_digit (length c.args.word.now / 2) c.args.word.now (omega (arith, c.as_chunks.ensures.back_len)))

pub loop-high-init : goal.loop-high-init
loop-high-init c =
    let even : length c.args.word.now ≡ length c.args.word.now / 2 * 2 = grind (arith, common_steps, c.as_chunks.ensures.back_len) in
    rw (c.in_ok-bytes.ensures.items, c.as_chunks.ensures.front) (option_map-nil _ ∙ in_pairs (length c.args.word.now / 2) c.args.word.now even)

pub loop-high-preserved : goal.loop-high-preserved
loop-high-preserved c = one_more _ c.as_chunks.result.0.now c.loop-high.high-index _ _ c.in-Some.byte c.loop-high-test.true c.in-Some.ensures c.in_ok-push.ensures.items c.loop-high.invariant
