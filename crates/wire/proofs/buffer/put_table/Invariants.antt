use Rattle.std.proofs.Common.{◌≡◌}
use Rattle.wire.specs.Buffers.{over}
use Rattle.wire.specs.Writing.{table_bytes}
use Rattle.wire.proofs.buffer.put_table.Given as goal

abbrev pub invariant-loop-row : goal.invariant-loop-row
invariant-loop-row l = l.out ≡ over 7 (table_bytes l.row 1) l.initial.out
