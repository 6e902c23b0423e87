use Rattle.std.proofs.Common.{arith}
use Rattle.wire.specs.Writing.{row_bytes, request_bytes}
use Rattle.wire.proofs.Putting.{put_after}
use Rattle.wire.proofs.buffer.put_vote.Goals as goal

pub returns : goal.returns
returns c =
    put_after 7 (row_bytes c.args.kind c.args.number) (request_bytes c.args.request) _ _ _ (omega arith) c.put_row.ensures c.put_request.ensures
