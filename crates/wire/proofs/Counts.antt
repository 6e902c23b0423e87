-- Counting one number more, and counting by a filter.
use Rattle.std.proofs.Common.{◌≡◌, ℕ, zero, suc, ◌+◌, Bool, true, false, ◌∷◌, length, filter, sym, refl, ap, add-zero, add-one, arith}
use Rattle.std.specs.List.{range_with_len}
use Rattle.wire.specs.Counting.{count}

pub count_yes : (n : ℕ) (passes : ℕ → Bool) → passes n ≡ true → count (n + 1) passes ≡ count n passes + 1
count_yes n passes e = rw (add-one, add-one, e) refl

pub count_no : (n : ℕ) (passes : ℕ → Bool) → passes n ≡ false → count (n + 1) passes ≡ count n passes
count_no n passes e = rw (add-one, e) refl

-- what passes among the numbers from a on
filtered : (passes : ℕ → Bool) (a n : ℕ) → length (filter passes (range_with_len a n)) + count a passes ≡ count (a + n) passes
filtered passes a zero = let e : count a passes ≡ count (a + 0) passes = ap (λ (k : ℕ). count k passes) (sym (add-zero a)) in omega arith
filtered passes a (suc n) = go (passes a) refl (filtered passes (a + 1) n)
  where
    end : count (a + 1 + n) passes ≡ count (a + suc n) passes
    end = ap (λ (k : ℕ). count k passes) (omega arith)

    go : (b : Bool) → passes a ≡ b → length (filter passes (range_with_len (a + 1) n)) + count (a + 1) passes ≡ count (a + 1 + n) passes
        → length (filter passes (a ∷ range_with_len (a + 1) n)) + count a passes ≡ count (a + suc n) passes
    go true e more = let one = count_yes a passes e in rw e (omega (arith, end))
    go false e more = let one = count_no a passes e in rw e (omega (arith, end))

pub length-filter-below : (passes : ℕ → Bool) (n : ℕ) → length (filter passes (range_with_len 0 n)) ≡ count n passes
length-filter-below passes n = let h = filtered passes 0 n in let e : count (0 + n) passes ≡ count n passes = ap (λ (k : ℕ). count k passes) (omega arith) in omega arith
