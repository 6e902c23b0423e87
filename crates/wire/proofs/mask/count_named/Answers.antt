use Rattle.std.proofs.Common.{◌∙◌, arith, rules}
use Rattle.std.proofs.lemmas.Iterator.{YieldsList-from_range}
use Rattle.std.proofs.lemmas.Iterator.Consumers.{YieldsList-from_filter, count_from_yields_List}
use Rattle.wire.specs.Counting.{names}
use Rattle.wire.proofs.Counts.{length-filter-below}
use Rattle.wire.proofs.mask.count_named.Goals as goal

pub returns : goal.returns
returns c =
    count_from_yields_List _ _ c.count.ensures.ran
    (YieldsList-from_filter _ (names c.args.mask) (YieldsList-from_range 0 c.args.n c.args.n (search rules) (omega arith)) c.filter.ensures.closure (λ x r q k. search rules))
    ∙ length-filter-below (names c.args.mask) c.args.n
