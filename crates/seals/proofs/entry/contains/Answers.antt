use Rattle.std.proofs.Common.{rules, tests, refl}
use Rattle.std.proofs.lemmas.Iterator.Search.{any_from_yields_List}
use Rattle.std.proofs.lemmas.Iterator.Consumers.{YieldsList-from_first}
use Rattle.seals.specs.Registers.{is_pair}
use Rattle.seals.specs.Layout.{entries, pair_of}
use Rattle.seals.proofs.entry.contains.Goals as goal

pub returns : goal.returns
returns c =
    any_from_yields_List (λ p. is_pair p c.args.entry.replica c.args.entry.bytes.now) c.any.new.self _ _ c.any.ensures.ran (YieldsList-from_first pair_of (λ s. entries s.rest.now) {s = record { rest = c.args.log }} (entries c.args.log.now) refl)
    (λ x b q k. search (rules, tests))
