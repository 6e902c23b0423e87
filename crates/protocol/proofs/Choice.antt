-- Logs put together by the highest view for each number: each entry is one of theirs, and none of theirs is of a higher view.
use Rattle.std.proofs.Common.{◌≡◌, ℕ, zero, suc, ◌<◌, Bool, cond, T, ltb, List, [], ◌∷◌, Some, refl, ap, ◌∙◌, sym, arith}
use Rattle.std.specs.List.{slice_get}
use Rattle.wire.specs.declared.entry.LogEntry.{LogEntry}
use Rattle.protocol.specs.Numbers.{at_number}
use Rattle.protocol.specs.Rules.{HasEntry}
use Rattle.protocol.specs.Selecting.{later, latest}
use Rattle.protocol.proofs.Choosing.{latest_from, latest_no_lower}

-- two logs in one, with the later entry for each number
merged : List LogEntry → List LogEntry → List LogEntry
merged [] es = es
merged (d ∷ ds) [] = d ∷ ds
merged (d ∷ ds) (e ∷ es) = cond (ltb d.view e.view) e d ∷ merged ds es

merged_at : (ds es : List LogEntry) (k : ℕ) → slice_get (merged ds es) k ≡ later (slice_get ds k) (slice_get es k)
unfolding merged
merged_at [] es k = refl
merged_at (d ∷ ds) [] k = grind arith
merged_at (d ∷ ds) (e ∷ es) zero = grind arith
merged_at (d ∷ ds) (e ∷ es) (suc k) = merged_at ds es k

-- the logs of all replicas below n that pass a test in one
together : (n : ℕ) (passes : ℕ → Bool) (log : ℕ → List LogEntry) → List LogEntry
together zero passes log = []
together (suc n) passes log = merged (together n passes log) (cond (passes n) (log n) [])

together_at : (n : ℕ) (passes : ℕ → Bool) (log : ℕ → List LogEntry) (k : ℕ)
    → slice_get (together n passes log) k ≡ latest n (λ h. slice_get (cond (passes h) (log h) []) k)
unfolding together
together_at zero passes log k = refl
together_at (suc n) passes log k = merged_at (together n passes log) _ k ∙ ap (λ o. later o (slice_get (cond (passes n) (log n) []) k)) (together_at n passes log k)

-- one log for those of all replicas below n that pass a test
pub record Best (n : ℕ) (passes : ℕ → Bool) (log : ℕ → List LogEntry) : Type 0 where
  pub entries : List LogEntry
  pub no_lower : (h number view : ℕ) → h < n → T (passes h) → HasEntry (log h) number view → HasEntry entries number view
  pub from_one : (number : ℕ) (e : LogEntry) → at_number entries number ≡ Some e
      → (h : ℕ) × (h < n) × T (passes h) × (at_number (log h) number ≡ Some e)

pub best : (n : ℕ) (passes : ℕ → Bool) (log : ℕ → List LogEntry) → Best n passes log
best n passes log = record { entries = together n passes log; no_lower = no_lower; from_one = from_one }
  where
    no_lower : (h number view : ℕ) → h < n → T (passes h) → HasEntry (log h) number view → HasEntry (together n passes log) number view
    no_lower h zero view l p has = absurd (grind arith)
    no_lower h (suc k) view l p has =
        rw (together_at n passes log k) (latest_no_lower n (λ h. slice_get (cond (passes h) (log h) []) k) h view l (has.0, grind arith, has.2))

    from_one : (number : ℕ) (e : LogEntry) → at_number (together n passes log) number ≡ Some e
        → (h : ℕ) × (h < n) × T (passes h) × (at_number (log h) number ≡ Some e)
    from_one zero e q = cc
    from_one (suc k) e q =
        let (h, l, at) = latest_from n (λ h. slice_get (cond (passes h) (log h) []) k) e (sym (together_at n passes log k) ∙ q) in
        (h, l, grind arith, grind arith)
