-- Tests of the numbers below n; a set of replicas is such a test.
use Rattle.std.specs.Prelude.{ℕ, zero, suc, Bool, true, cond, not, ◌&&◌}
pub use Rattle.wire.specs.Counting.{count}

-- every number below n passes the test
abbrev pub all_below : ℕ → (ℕ → Bool) → Bool
all_below zero p = true
all_below (suc n) p = p n && all_below n p

-- the same numbers below n pass both tests
abbrev pub alike : ℕ → (ℕ → Bool) → (ℕ → Bool) → Bool
alike n p q = all_below n (λ k. cond (p k) (q k) (not (q k)))
