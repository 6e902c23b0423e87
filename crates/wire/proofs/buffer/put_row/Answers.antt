use Rattle.std.proofs.Common.{ap, ◌∙◌, arith}
use Rattle.std.specs.Int.{bytes_high_first}
use Rattle.wire.specs.Bytes.{be}
use Rattle.wire.specs.Kinds.{body_length}
use Rattle.wire.proofs.Putting.{put_number, put_after}
use Rattle.wire.proofs.buffer.put_row.Goals as goal

pub returns : goal.returns
returns c =
    put_after c.args.at (be 4 c.args.number) (be 2 (body_length c.args.kind)) _ _ _ (omega arith)
    (put_number 4 _ _ _ _ _ c.to_be_bytes.ensures c.put.ensures)
    (put_number 2 _ _ _ _ _ (c.to_be_bytes-2.ensures ∙ ap (bytes_high_first 2) c.body_length.ensures) c.put-2.ensures)
