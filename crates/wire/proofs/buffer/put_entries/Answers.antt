use Rattle.std.proofs.Common.{◌+◌, ◌*◌, get_or, ap, ◌∙◌}
use Rattle.wire.specs.declared.entry.LogEntry.{LogEntry}
use Rattle.wire.specs.Buffers.{over}
use Rattle.wire.specs.Writing.{entry_bytes}
use Rattle.wire.proofs.Reporting.{entries_more}
use Rattle.wire.proofs.buffer.put_entries.Goals as goal

pub loop-row-preserved : goal.loop-row-preserved
loop-row-preserved c =
    let at = c.args.offset + 18 * c.loop-row.row in
    c.put_entry.ensures
    ∙ ap (λ (e : LogEntry). over at (entry_bytes e) c.loop-row.out) c.index-entries-row.is
    ∙ ap (over at (entry_bytes (get_or c.args.entries.now c.loop-row.row c.index-entries-row.result))) c.loop-row.invariant
    ∙ entries_more c.args.offset c.loop-row.row c.args.entries.now c.index-entries-row.result c.args.out.now c.loop-row-test.true c.requires
