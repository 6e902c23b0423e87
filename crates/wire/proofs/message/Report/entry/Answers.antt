use Rattle.std.proofs.Common.{Some, sym, ap, ◌∙◌, arith}
use Rattle.wire.specs.Messages.{entry_in, rows_of}
use Rattle.wire.proofs.Found.{entry_at, no_entry_past}
use Rattle.wire.proofs.message.Report.entry.Goals as goal

pub returns-then-row-len : goal.returns-then-row-len
returns-then-row-len c = sym (no_entry_past (rows_of c.args.self.now) c.args.row c.args.self.now.bodies.now (omega arith))

pub returns : goal.returns
returns c =
    ap Some (c.entry_of.ensures ∙ ap entry_in c.split_at.ensures.back)
    ∙ sym (entry_at (rows_of c.args.self.now) c.args.row c.args.self.now.bodies.now (omega arith))
