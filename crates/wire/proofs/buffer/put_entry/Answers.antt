use Rattle.std.proofs.Common.{arith}
use Rattle.wire.specs.Bytes.{be}
use Rattle.wire.specs.Writing.{request_bytes}
use Rattle.wire.proofs.Putting.{put_number, put_after}
use Rattle.wire.proofs.buffer.put_entry.Goals as goal

pub returns : goal.returns
returns c =
    put_after c.args.at (be 4 c.args.entry.view) (request_bytes c.args.entry.request) _ _ _ (omega arith)
    (put_number 4 _ _ _ _ _ c.to_be_bytes.ensures c.put.ensures)
    c.put_request.ensures
