use Rattle.std.proofs.Common.{◌≡◌, ◌∷◌, length, None, rules, sym, ap, ◌∙◌}
use Rattle.std.proofs.lemmas.Grind.{common_steps}
use Rattle.seals.specs.Layout.{entries, first, pair_of}
use Rattle.seals.proofs.Walking.{entries_none, entries_some}
use Rattle.seals.proofs.entry.EntriesIterator.next.Goals as goal
use Rattle.seals.proofs.entry.EntriesIterator.next.Goals.{In_ok-entry}

pub returns-in_err-entry-clause-steps : goal.returns-in_err-entry-clause-steps
returns-in_err-entry-clause-steps c =
    let f : first c.args.self.now.rest.now ≡ None = search rules in
    let n = entries_none _ f in
    search rules

-- the entry and those behind it
split : (c : In_ok-entry) → entries c.args.self.now.rest.now ≡ pair_of c.in_ok-entry.entry ∷ entries c.in_ok-entry.rest.now
split c = entries_some _ _ (sym c.in_ok-entry.ensures.entry) ∙ ap (λ bs. pair_of c.in_ok-entry.entry ∷ entries bs) (sym c.in_ok-entry.ensures.rest)

pub returns-clause-steps : goal.returns-clause-steps
returns-clause-steps c = split (goal.at.returns-clause-steps c).In_ok-entry

pub returns-clause-goes : goal.returns-clause-goes
returns-clause-goes c = let e = ap length (split (goal.at.returns-clause-goes c).In_ok-entry) in search (rules, common_steps)
