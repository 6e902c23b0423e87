-- Counting replicas: two sets that together have more than n members below n share one.
use Rattle.std.proofs.Common.{◌≡◌, ℕ, zero, suc, ◌+◌, ◌<◌, ◌≤◌, Bool, not, ◌&&◌, T, refl, not-suc-le-zero, arith}
use Rattle.wire.specs.Counting.{count}

pub each_passes : (a b : Bool) → T (a && b) → T a × T b
each_passes a b t = grind arith

-- tests that together pass more than n times below n pass together at some number
pub share : (n : ℕ) (p q : ℕ → Bool) → n < count n p + count n q → (k : ℕ) × (k < n) × T (p k) × T (q k)
share zero p q h = absurd (not-suc-le-zero h)
share (suc n) p q h = grind (arith, share n p q)

-- each number below n passes a test or its denial
pub count_not : (n : ℕ) (p : ℕ → Bool) → count n p + count n (λ k. not (p k)) ≡ n
count_not zero p = refl
count_not (suc n) p = grind (arith, count_not n p)

-- a test that passes wherever another does counts no fewer
pub count_more : (n : ℕ) (p q : ℕ → Bool) → ((k : ℕ) → k < n → T (p k) → T (q k)) → count n p ≤ count n q
count_more zero p q h = omega arith
count_more (suc n) p q h = grind (arith, count_more n p q (λ k l. h k (omega arith)), h n)
