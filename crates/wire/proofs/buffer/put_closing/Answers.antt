use Rattle.std.proofs.Common.{arith}
use Rattle.wire.specs.declared.kind.Kind.TheVariants.{Closing}
use Rattle.wire.specs.Bytes.{be}
use Rattle.wire.specs.Writing.{row_bytes}
use Rattle.wire.proofs.Putting.{put_number, put_after}
use Rattle.wire.proofs.buffer.put_closing.Goals as goal

pub returns : goal.returns
returns c = put_after 7 (row_bytes Closing 0) (be 2 c.args.mask) _ _ _ (omega arith) c.put_row.ensures (put_number 2 c.args.mask 13 _ c.put_row.new.out c.put.new.out c.to_be_bytes.ensures c.put.ensures)
