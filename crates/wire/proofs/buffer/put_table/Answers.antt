use Rattle.std.proofs.Common.{ℕ, ◌+◌, ◌*◌, ap, ◌∙◌, arith}
use Rattle.wire.specs.declared.kind.Kind.TheVariants.{Report}
use Rattle.wire.specs.Buffers.{over}
use Rattle.wire.specs.Writing.{row_bytes}
use Rattle.wire.proofs.Reporting.{table_more}
use Rattle.wire.proofs.buffer.put_table.Goals as goal

pub loop-row-preserved : goal.loop-row-preserved
loop-row-preserved c =
    let row = c.loop-row.row in
    c.put_row.ensures
    ∙ ap (λ (k : ℕ). over (7 + 6 * k) (row_bytes Report (c.from-in-loop-row.result + 1)) c.loop-row.out) c.from.ensures
    ∙ ap (λ (k : ℕ). over (7 + 6 * row) (row_bytes Report (k + 1)) c.loop-row.out) c.from-in-loop-row.ensures
    ∙ ap (over (7 + 6 * row) (row_bytes Report (row + 1))) c.loop-row.invariant
    ∙ table_more row c.args.out.now (omega arith)
