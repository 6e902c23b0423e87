use Rattle.std.proofs.Common.{ℕ, List, drop, ap, ◌∙◌, add-zero, arith}
use Rattle.wire.specs.Bytes.{num}
use Rattle.wire.proofs.Cuts.{num-take, num-drop}
use Rattle.wire.proofs.numbers.bytes_at.Goals as goal

pub returns : goal.returns
returns g c =
    let bs = c.args.bytes.now in
    let n = g.row.N in
    ap (λ (part : List ℕ). num part 0 n) c.copy_from_slice.ensures.after
    ∙ num-take _ (drop c.args.at bs) 0 n (omega arith)
    ∙ num-drop c.args.at bs 0 n
    ∙ ap (λ (k : ℕ). num bs k n) (add-zero c.args.at)
