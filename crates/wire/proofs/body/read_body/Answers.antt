use Rattle.std.proofs.Common.{length, sym, ap, ◌∙◌, arith}
use Rattle.wire.specs.Kinds.{message_length}
use Rattle.wire.specs.Messages.{says, said}
use Rattle.wire.proofs.Sizes.{length_writing}
use Rattle.wire.proofs.body.read_body.Goals as goal

pub body_at-requires : goal.body_at-requires
body_at-requires c =
    let m = says c.in_ok-message.message in
    let w = c.read.ensures.is_the_writing_of_one_message m (ap said c.in_ok-message.was) in
    (omega arith, ap length w.written ∙ length_writing m.replica m.statement ∙ (λ i. message_length (sym c.kind.ensures i) (sym c.rows-rows.ensures i)))
