use Rattle.std.proofs.Common.{◌≡◌, not, length, unwrap_or, arith, rules, sym}
use Rattle.std.proofs.lemmas.Grind.{common_steps}
use Rattle.std.proofs.lemmas.Iterator.{YieldsList-from_slice}
use Rattle.std.proofs.lemmas.Iterator.Search.{position_from_yields_List}
use Rattle.scenario.proofs.Fronts.{front_len_is}
use Rattle.scenario.proofs.lines.cut.Goals as goal

pub returns-clause-parts : goal.returns-clause-parts
returns-clause-parts g c = λ p says.
    let end : c.unwrap_or.result ≡ unwrap_or c.position-end.result (length c.args.text.now) = grind (arith, common_steps, c.unwrap_or.ensures) in
    let len = front_len_is p c.args.text.now c.position-end.result c.unwrap_or.result end
    (position_from_yields_List (λ b. not (p b)) _ _ c.position-end.result c.position-end.ensures.ran (YieldsList-from_slice c.args.text.now cc) (λ x r q k. search (rules, says))) in
    rw (sym len) (c.split_at.ensures.front, c.split_at.ensures.back)
