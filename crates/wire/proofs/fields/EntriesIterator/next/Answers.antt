use Rattle.std.proofs.Common.{◌∷◌, length, sym, ap, ◌∙◌, arith, rules}
use Rattle.wire.specs.declared.entry.LogEntry.{LogEntry}
use Rattle.wire.specs.Messages.{entries_left}
use Rattle.wire.proofs.Found.{entries_first}
use Rattle.wire.proofs.fields.EntriesIterator.next.Goals as goal

pub returns-clause-steps : goal.returns-clause-steps
returns-clause-steps c =
    let others = entries_left (record { bodies = c.in_ok-body.rest }) in
    entries_first _ _ _ c.in_ok-body.ensures.cases ∙ sym (ap (λ (e : LogEntry). e ∷ others) c.entry_of.ensures)

pub returns-clause-goes : goal.returns-clause-goes
returns-clause-goes c = let more = ap (length {A = LogEntry}) (returns-clause-steps c) in search (rules, arith)
