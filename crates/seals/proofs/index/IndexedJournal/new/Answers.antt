use Rattle.std.proofs.Common.{◌≡◌, length, replicate, ◌∙◌, sym, subst}
use Rattle.seals.specs.Logs.{entry_at}
use Rattle.seals.specs.Slots.{empty_slot}
use Rattle.seals.proofs.Reaching.{Sound, new_nothing, new_sound}
use Rattle.seals.proofs.index.IndexedJournal.new.Goals as goal
use Rattle.seals.proofs.index.IndexedJournal.new.Goals.{After-new}

emptied : (c : After-new) → replicate (length c.args.slots.now) empty_slot ≡ c.fill.new.self
emptied c = sym (c.fill.ensures.after (λ y k. k))

pub invariant_of-result : goal.invariant_of-result
invariant_of-result c =
    let s = subst (λ slots. Sound (entry_at c.new.result) slots (length c.args.slots.now)) (emptied c) (new_sound _ _) in
    record { readable = s.readable; counted = c.fill.ensures.len ∙ s.counted; reached = s.reached }

pub returns-clause-nothing_sealed : goal.returns-clause-nothing_sealed
returns-clause-nothing_sealed c = rw (← emptied (goal.at.returns-clause-nothing_sealed c).After-new) (new_nothing (entry_at c.new.result) (length c.args.slots.now))
