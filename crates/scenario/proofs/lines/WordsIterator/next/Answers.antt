use Rattle.std.proofs.Common.{rules, arith}
use Rattle.std.proofs.lemmas.Grind.{common_steps}
use Rattle.scenario.specs.Classes.{blank, in_word}
use Rattle.scenario.proofs.Fronts.{no_word}
use Rattle.scenario.proofs.lines.WordsIterator.next.Goals as goal

pub returns-clause-steps : goal.returns-clause-steps
returns-clause-steps c =
    let blanks = c.cut.ensures.parts blank (λ b r k. search rules) in
    let letters = c.cut-2.ensures.parts in_word (λ b r k. search rules) in
    grind (arith, common_steps, no_word c.self.inside.line.now, blanks, letters)
