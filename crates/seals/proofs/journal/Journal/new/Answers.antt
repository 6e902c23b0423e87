use Rattle.std.proofs.Common.{[], refl, ap, ◌∙◌}
use Rattle.seals.specs.Registers.{among}
use Rattle.seals.specs.Layout.{entries}
use Rattle.seals.proofs.Walking.{whole_none, entries_none}
use Rattle.seals.proofs.journal.Journal.new.Goals as goal

pub invariant_of-result : goal.invariant_of-result
invariant_of-result c = record { whole = whole_none _ c.new.ensures.nothing_used }

pub returns-clause-nothing_sealed : goal.returns-clause-nothing_sealed
returns-clause-nothing_sealed c = ap (λ bs. among (entries bs)) c.new.ensures.nothing_used ∙ ap among (entries_none [] refl)
