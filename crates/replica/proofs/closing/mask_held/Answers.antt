use Rattle.std.proofs.Common.{◌≡◌, ℕ, ◌+◌, ◌^◌, ◌<◌, Bool, true, false, sym, refl, ap, ◌∙◌, add-one, rules}
use lib.Bits.{bit_or}
use Rattle.std.proofs.lemmas.Nat.{one_shl}
use Rattle.protocol.specs.Selecting.{holds, mask_of}
use Rattle.replica.proofs.closing.mask_held.Goals as goal
use Rattle.replica.proofs.closing.mask_held.Goals.{then-is_held, else-is_held}

mask_yes : (n : ℕ) (passes : ℕ → Bool) → passes n ≡ true → mask_of (n + 1) passes ≡ bit_or (mask_of n passes) (2 ^ n)
mask_yes n passes e = rw (add-one, e) refl

mask_no : (n : ℕ) (passes : ℕ → Bool) → passes n ≡ false → mask_of (n + 1) passes ≡ mask_of n passes
mask_no n passes e = rw (add-one, e) refl

pub loop-replica-preserved : goal.loop-replica-preserved
loop-replica-preserved c =
    let k = c.loop-replica.replica in
    let few : k < 16 = search rules in
    elim c.if-is_held.branch [
      | then-is_held w ↦
          w.mask-is ∙ ap (λ (b : ℕ). bit_or c.loop-replica.mask b) (one_shl k 16 few)
          ∙ ap (λ (m : ℕ). bit_or m (2 ^ k)) c.loop-replica.invariant
          ∙ sym (mask_yes k (holds c.args.state.now) (sym c.is_held.ensures ∙ w.if-is_held.true))
      | else-is_held w ↦
          w.mask-is ∙ c.loop-replica.invariant
          ∙ sym (mask_no k (holds c.args.state.now) (sym c.is_held.ensures ∙ w.if-is_held.false))
    ]
