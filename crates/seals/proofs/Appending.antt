-- What a log reads once an entry stands behind its used bytes.
use Rattle.std.proofs.Common.{◌≡◌, ℕ, ◌≤◌, [], ◌++◌, length, drop, Some, None, sym, ap, ◌∙◌, ⊎_elim, le_of_lt}
use Rattle.std.proofs.lemmas.Bool.{cases_lt}
use Rattle.std.proofs.lemmas.List.{append-nil, drop_all, drop_at, drop-append-le}
use Rattle.seals.specs.declared.log.EntryLog.{EntryLog}
use Rattle.seals.specs.Registers.{Pair}
use Rattle.seals.specs.Layout.{packed, first}
use Rattle.seals.specs.Logs.{entry_at, used_bytes}
use Rattle.seals.proofs.Packing.{first_packed, first_longer}

module _ (l m : EntryLog) (p : Pair) (grown : used_bytes m ≡ used_bytes l ++ packed p) where
  pub reads_new : (offset : ℕ) → length (used_bytes l) ≡ offset → length p.1 ≤ 65535 → entry_at m offset ≡ Some p
  unfolding entry_at
  reads_new offset e le = rw (grown, drop_at (used_bytes l) (packed p) offset e) (ap first (sym (append-nil (packed p))) ∙ first_packed p [] le)

  pub reads_old : (offset : ℕ) (q : Pair) → entry_at l offset ≡ Some q → entry_at m offset ≡ Some q
  unfolding entry_at
  reads_old offset q e =
      ⊎_elim
      (λ lt. rw (grown, drop-append-le offset (used_bytes l) (packed p) (le_of_lt lt)) (first_longer (drop offset (used_bytes l)) (packed p) q e))
      (λ le. let n : first (drop offset (used_bytes l)) ≡ None = ap first (drop_all offset (used_bytes l) le) in absurd (cc))
      (cases_lt offset (length (used_bytes l)))
