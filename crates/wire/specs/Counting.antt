-- Counting replicas.
use Rattle.std.specs.Prelude.{ℕ, zero, suc, ◌/◌, ◌%◌, ◌^◌, Bool, cond, ◌==◌}

-- how many of the numbers below n pass a test
abbrev pub count : ℕ → (ℕ → Bool) → ℕ
count zero passes = 0
count (suc n) passes = cond (passes n) (suc (count n passes)) (count n passes)

-- a mask names replica h by its bit of value 2 ^ h
abbrev pub names : ℕ → ℕ → Bool
names mask h = mask / 2 ^ h % 2 == 1
