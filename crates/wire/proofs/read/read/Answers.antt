use Rattle.std.proofs.Common.{sym, ◌∙◌}
use Rattle.wire.proofs.Laws.{read_is_written}
use Rattle.wire.proofs.read.read.Goals as goal

pub returns-clause-is_the_writing_of_one_message : goal.returns-clause-is_the_writing_of_one_message
returns-clause-is_the_writing_of_one_message c =
    λ m e. read_is_written c.args.config c.args.bytes.now m (λ i. (c.type_inv.bytes i).fits) (sym c.read_message.ensures.says ∙ e)
