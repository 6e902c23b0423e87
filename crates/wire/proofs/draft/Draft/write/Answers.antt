use Rattle.std.proofs.Common.{◌≡◌, ℕ, ◌++◌, length, drop, sym, ap, ◌∙◌, arith}
use Rattle.wire.specs.Drafts.{statement_of}
use Rattle.wire.specs.Kinds.{message_length}
use Rattle.wire.specs.Writing.{writing}
use Rattle.wire.proofs.Laws.{fits_of, start_reads}
use Rattle.wire.proofs.Sizes.{length_writing}
use Rattle.wire.proofs.draft.Draft.write.Goals as goal

pub returns-clause-fills : goal.returns-clause-fills
returns-clause-fills c =
    let s = statement_of c.args.self.now in
    let long : length (writing c.args.self.now.replica s) ≡ c.message_length-length.result =
    length_writing c.args.self.now.replica s ∙ (λ i. message_length (sym c.kind.ensures i) (sym c.rows.ensures i)) ∙ sym c.message_length-length.ensures in
    c.put.ensures ∙ ap (λ (k : ℕ). writing c.args.self.now.replica s ++ drop k c.args.out.now) (omega (arith, long))

pub returns-clause-reads_back : goal.returns-clause-reads_back
returns-clause-reads_back c =
    let s = statement_of c.args.self.now in
    let long : length (writing c.args.self.now.replica s) ≡ c.message_length-length.result =
    length_writing c.args.self.now.replica s ∙ (λ i. message_length (sym c.kind.ensures i) (sym c.rows.ensures i)) ∙ sym c.message_length-length.ensures in
    start_reads c.args.config c.args.self.now.replica s _ _ _ (fits_of _ _ (sym c.in_ok-check.ensures)) long c.put.ensures
