-- Sets of numbers below n, by their counts. Two sets that together have more than n members share one.
use Rattle.std.proofs.Common.{◌≡◌, ℕ, zero, suc, ◌+◌, ◌<◌, ◌≤◌, Bool, true, false, cond, not, T, List, [], ◌∷◌, length, get_or, filter, refl, subst, not-suc-le-zero, arith}
use Rattle.groups.specs.Counting.{count}

pub both : (n : ℕ) (p q : ℕ → Bool) → n < count n p + count n q → (k : ℕ) × (k < n) × T (p k) × T (q k)
both zero p q h = absurd (not-suc-le-zero h)
both (suc n) p q h = go (λ l. both n p q l) (p n) (q n) refl refl
  where
    Found : ℕ → Type 0
    Found m = (k : ℕ) × (k < m) × T (p k) × T (q k)

    wider : Found n → Found (suc n)
    wider r = (r.0, omega arith, r.2, r.3)

    go : (n < count n p + count n q → Found n) → (a b : Bool) → p n ≡ a → q n ≡ b → Found (suc n)
    go up true true ea eb = (n, omega arith, rw ea tt, rw eb tt)
    go up true false ea eb = wider (up (omega (arith, rw (ea, eb) at h)))
    go up false true ea eb = wider (up (omega (arith, rw (ea, eb) at h)))
    go up false false ea eb = wider (up (omega (arith, rw (ea, eb) at h)))

-- a set and its complement have n members
pub count_not : (n : ℕ) (p : ℕ → Bool) → count n p + count n (λ k. not (p k)) ≡ n
count_not zero p = refl
count_not (suc n) p = go (p n) refl (count_not n p)
  where
    go : (a : Bool) → p n ≡ a → count n p + count n (λ k. not (p k)) ≡ n → count (suc n) p + count (suc n) (λ k. not (p k)) ≡ suc n
    go true ea ih = rw ea (omega arith)
    go false ea ih = rw ea (omega arith)

-- a subset has no more members
pub count_mono : (n : ℕ) (p q : ℕ → Bool) → ((k : ℕ) → k < n → T (p k) → T (q k)) → count n p ≤ count n q
count_mono zero p q h = omega arith
count_mono (suc n) p q h = go (p n) (q n) refl refl (count_mono n p q (λ k l. h k (omega arith)))
  where
    go : (a b : Bool) → p n ≡ a → q n ≡ b → count n p ≤ count n q → count (suc n) p ≤ count (suc n) q
    go true true ea eb ih = rw (ea, eb) (omega arith)
    go true false ea eb ih = absurd (subst T eb (h n (omega arith) (rw ea tt)))
    go false true ea eb ih = rw (ea, eb) (omega arith)
    go false false ea eb ih = rw (ea, eb) ih

-- sets with the same members below n have equally many
pub count_same : (n : ℕ) (p q : ℕ → Bool) → ((k : ℕ) → k < n → p k ≡ q k) → count n p ≡ count n q
count_same zero p q h = refl
count_same (suc n) p q h = rw (h n (omega arith), count_same n p q (λ k l. h k (omega arith)))

pub count_none : (n : ℕ) → count n (λ k. false) ≡ 0
count_none zero = refl
count_none (suc n) = count_none n

-- counting from the bottom
count_first : (n : ℕ) (p : ℕ → Bool) → count (suc n) p ≡ cond (p 0) 1 0 + count n (λ k. p (suc k))
count_first zero p = go (p 0)
  where
    go : (a : Bool) → cond a 1 0 ≡ cond a 1 0 + 0
    go true = refl
    go false = refl
count_first (suc n) p = go (p (suc n)) (count_first n p)
  where
    go : (a : Bool) → count (suc n) p ≡ cond (p 0) 1 0 + count n (λ k. p (suc k))
        → cond a (suc (count (suc n) p)) (count (suc n) p) ≡ cond (p 0) 1 0 + cond a (suc (count n (λ k. p (suc k)))) (count n (λ k. p (suc k)))
    go true ih = omega arith
    go false ih = ih

-- the places of a list whose element passes are as many as its elements that pass
pub count_places : {X : Type 0} (p : X → Bool) (xs : List X) (d : X) → count (length xs) (λ i. p (get_or xs i d)) ≡ length (filter p xs)
count_places p [] d = refl
count_places p (x ∷ xs) d = go (p x) refl (count_first (length xs) (λ i. p (get_or (x ∷ xs) i d))) (count_places p xs d)
  where
    go : (a : Bool) → p x ≡ a
        → count (suc (length xs)) (λ i. p (get_or (x ∷ xs) i d)) ≡ cond (p x) 1 0 + count (length xs) (λ i. p (get_or xs i d))
        → count (length xs) (λ i. p (get_or xs i d)) ≡ length (filter p xs)
        → count (suc (length xs)) (λ i. p (get_or (x ∷ xs) i d)) ≡ length (filter p (x ∷ xs))
    go true e first ih = rw (first, e) (omega arith)
    go false e first ih = rw (first, e) (omega arith)
