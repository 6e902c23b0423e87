use Rattle.std.proofs.Common.{◌≡◌, ap, ◌∙◌, arith}
use Rattle.scenario.specs.Hex.{digits_of}
use Rattle.scenario.proofs.Glyphs.{boundary, pair_at}
use Rattle.scenario.proofs.words.printed_digits.Goals as goal

pub range-requires-clause-start_boundary : goal.range-requires-clause-start_boundary
range-requires-clause-start_boundary c = λ _. boundary _ (omega arith)

pub range-requires-clause-end_boundary : goal.range-requires-clause-end_boundary
range-requires-clause-end_boundary c = boundary _ (omega arith)

pub returns : goal.returns
returns c =
    let place : c.from-at.result ≡ c.args.b = omega arith in
    c.range.ensures.value ∙ pair_at c.from-at.result (omega arith) ∙ ap digits_of place
