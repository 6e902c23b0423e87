use Rattle.std.proofs.Common.{ℕ, length, ap, ◌∙◌, arith}
use Rattle.wire.specs.Buffers.{over}
use Rattle.wire.specs.Writing.{table_bytes, entries_bytes}
use Rattle.wire.proofs.Putting.{put_after}
use Rattle.wire.proofs.Reporting.{table_length}
use Rattle.wire.proofs.buffer.put_report.Goals as goal

pub returns : goal.returns
returns c =
    let rows = length c.args.entries.now in
    let long = table_length rows 1 in
    put_after 7 (table_bytes rows 1) (entries_bytes c.args.entries.now) _ _ _ (omega arith) c.put_table.ensures
    (c.put_entries.ensures ∙ ap (λ (k : ℕ). over k (entries_bytes c.args.entries.now) c.put_table.new.out) (omega arith))
