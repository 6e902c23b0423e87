use Rattle.std.proofs.Common.{◌++◌, arith}
use Rattle.wire.specs.Bytes.{be}
use Rattle.wire.proofs.Putting.{put_number, put_after}
use Rattle.wire.proofs.buffer.put_request.Goals as goal

pub returns : goal.returns
returns c =
    let client = be 2 c.args.request.client in
    let stamp = be 4 c.args.request.stamp in
    let work = be 8 c.args.request.work in
    put_after c.args.at (client ++ stamp) work _ _ _ (omega arith)
    (put_after c.args.at client stamp _ _ _ (omega arith) (put_number 2 _ _ _ _ _ c.to_be_bytes.ensures c.put.ensures) (put_number 4 _ _ _ _ _ c.to_be_bytes-2.ensures c.put-2.ensures))
    (put_number 8 _ _ _ _ _ c.to_be_bytes-3.ensures c.put-3.ensures)
