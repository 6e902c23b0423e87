use Rattle.std.proofs.Common.{ℕ, [], ◌∷◌, ◌++◌, ap, ◌∙◌, arith}
use Rattle.wire.specs.Buffers.{over}
use Rattle.wire.specs.Bytes.{be}
use Rattle.wire.specs.Kinds.{kind_number}
use Rattle.wire.proofs.Putting.{put_number, put_after}
use Rattle.wire.proofs.buffer.put_head.Goals as goal

pub returns : goal.returns
returns c =
    let who = kind_number c.args.kind ∷ c.args.replica ∷ [] in
    let view = be 4 c.args.view in
    put_after 0 (who ++ view) (c.args.rows ∷ []) c.args.out.now _ _ (omega arith)
    (put_after 0 who view c.args.out.now _ _ (omega arith)
    (c.put.ensures ∙ ap (λ (k : ℕ). over 0 (k ∷ c.args.replica ∷ []) c.args.out.now) c.from.ensures)
    (put_number 4 c.args.view 2 _ c.put.new.out c.put-2.new.out c.to_be_bytes.ensures c.put-2.ensures))
    c.put-3.ensures
