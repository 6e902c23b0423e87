use Rattle.std.proofs.Common.{◌++◌, arith}
use Rattle.wire.specs.declared.kind.Kind.TheVariants.{Reply}
use Rattle.wire.specs.Bytes.{be}
use Rattle.wire.specs.Writing.{row_bytes, request_bytes}
use Rattle.wire.proofs.Putting.{put_number, put_after}
use Rattle.wire.proofs.buffer.put_reply.Goals as goal

pub returns : goal.returns
returns c =
    put_after 7 (row_bytes Reply c.args.number ++ request_bytes c.args.request) (be 8 c.args.outcome) _ _ _ (omega arith)
    c.put_vote.ensures (put_number 8 c.args.outcome 27 _ c.put_vote.new.out c.put.new.out c.to_be_bytes.ensures c.put.ensures)
