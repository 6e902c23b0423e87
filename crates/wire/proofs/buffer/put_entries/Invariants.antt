use Rattle.std.proofs.Common.{◌≡◌, take}
use Rattle.wire.specs.Buffers.{over}
use Rattle.wire.specs.Writing.{entries_bytes}
use Rattle.wire.proofs.buffer.put_entries.Given as goal

abbrev pub invariant-loop-row : goal.invariant-loop-row
invariant-loop-row l = l.out ≡ over l.offset (entries_bytes (take l.row l.entries)) l.initial.out
