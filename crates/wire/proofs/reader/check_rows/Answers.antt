use Rattle.std.proofs.Common.{◌≡◌, Err, arith, rules}
use Rattle.std.proofs.lemmas.Result.{err_from_is_err_and}
use Rattle.wire.specs.Reading.{checked, row_read}
use Rattle.wire.proofs.Steps.{callable, checked_is, row_alone}
use Rattle.wire.proofs.reader.check_rows.Goals as goal

pub try_for_each-requires-clause-callable : goal.try_for_each-requires-clause-callable
try_for_each-requires-clause-callable c =
    callable 6 _ _ _ c.args.contents.now (search rules) (search rules) (search rules) (λ x q e. search rules) (λ x long within. search (rules, arith))

pub returns : goal.returns
returns c =
    checked_is 6 _ _ (row_read c.args.kind) _ (omega arith) (row_alone c.args.kind) (λ x q e. search rules) (λ e. search rules)
    (λ x e. let p = err_from_is_err_and c.try_for_each.result e.5.1 in let same : checked (row_read c.args.kind x.0 x.1.now) ≡ Err p.0 = search rules in (p.0, p.1, same)) _ _ c.args.contents.now (search rules) (search rules) (search rules) c.try_for_each.ensures.ran
