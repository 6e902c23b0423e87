use Rattle.std.proofs.Common.{ℕ, ◌+◌, ◌*◌, ◌/◌, List, length, Ok, Result, sym, ap, ◌∙◌}
use Rattle.wire.specs.declared.entry.LogEntry.{LogEntry}
use Rattle.wire.specs.declared.fault.ReadFault.{ReadFault}
use Rattle.wire.specs.Reading.{with, checked, entries_read, stated}
use Rattle.wire.specs.Statements.{report}
use Rattle.wire.proofs.Found.{entries_are}
use Rattle.wire.proofs.parts.Parts.read_report.Goals as goal

pub returns-clause-says : goal.returns-clause-says
returns-clause-says c =
    let p = c.args.self in
    let bs = p.bodies.now in
    let place = ap (λ (n : ℕ). checked (entries_read p.view (length bs / 18) (7 + 6 * n) bs)) (sym c.from.ensures) in
    let e = entries_are p.view p.rows (7 + 6 * p.rows) bs c.requires (place ∙ sym c.check_entries.ensures ∙ c.in_ok-check_entries.was) in
    sym (ap (λ (r : Result (List LogEntry) ReadFault). stated p.replica (with r (λ es. Ok (report p.view es)))) e)
