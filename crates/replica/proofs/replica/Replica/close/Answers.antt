use Rattle.std.proofs.Common.{◌≡◌, ℕ, ◌+◌, true, leb, sym, ap, ◌∙◌, subst, rules}
use Rattle.wire.specs.Configs.{faults}
use Rattle.wire.specs.Counting.{count}
use Rattle.wire.specs.Laws.{Fits}
use Rattle.wire.specs.Statements.{closing}
use Rattle.protocol.specs.Selecting.{peers, holds, held_mask, mask_of}
use Rattle.replica.proofs.Fitting.{closing_fits}
use Rattle.replica.proofs.replica.Replica.close.Goals as goal

pub send-length-requires-clause-ranges : goal.send-length-requires-clause-ranges
send-length-requires-clause-ranges g c =
    let r = c.args.self.now in
    let s = r.state in
    let enough : leb (faults s.config + 1) (count (peers s) (holds s)) ≡ true = search rules in
    let named : c.mask_held-mask.result ≡ held_mask s = c.mask_held-mask.ensures ∙ ap (λ (n : ℕ). mask_of n (holds s)) c.n-n.ensures in
    let fits : Fits s.config s.number (closing s.view c.mask_held-mask.result) = subst (λ (m : ℕ). Fits s.config s.number (closing s.view m)) (sym named) (closing_fits s r.placed enough) in
    search rules
