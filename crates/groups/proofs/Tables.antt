-- A table of rows tested as a whole: one test says that the sets of k numbers below n are its rows, each once.
use Rattle.std.proofs.Common.{◌≡◌, ℕ, zero, suc, ◌<◌, Bool, true, false, cond, not, ◌&&◌, T, List, [], ◌∷◌, length, filter, refl, ◌∙◌, arith}
use Rattle.std.specs.List.{AllByRecursion as All}
use Rattle.groups.specs.Counting.{count, alike}

pub parts : (a b : Bool) → T (a && b) → T a × T b
parts true b t = (tt, t)
parts false b t = absurd t

abbrev pub empty : {X : Type 0} → List X → Bool
empty [] = true
empty (x ∷ xs) = false

abbrev pub single : {X : Type 0} → List X → Bool
single [] = false
single (x ∷ xs) = empty xs

abbrev pub every : {X : Type 0} → (X → Bool) → List X → Bool
every f [] = true
every f (x ∷ xs) = f x && every f xs

every_all : {X : Type 0} (f : X → Bool) (xs : List X) → T (every f xs) → All (λ x. T (f x)) xs
every_all f [] t = tt
every_all f (x ∷ xs) t = ((parts (f x) (every f xs) t).0, every_all f xs (parts (f x) (every f xs) t).1)

not_empty : {X : Type 0} (xs : List X) → T (not (empty xs)) → 0 < length xs
not_empty [] t = absurd t
not_empty (x ∷ xs) t = omega arith

empty_all : {X : Type 0} (P : X → Type 0) (xs : List X) → T (empty xs) → All P xs
empty_all P [] t = tt
empty_all P (x ∷ xs) t = absurd t

-- what passes two tests is what of the first's passes the second
kept_both : {X : Type 0} (a q : X → Bool) (xs : List X) → length (filter (λ x. a x && q x) xs) ≡ length (filter q (filter a xs))
kept_both a q [] = refl
kept_both a q (x ∷ xs) = go (a x) (q x) refl refl (kept_both a q xs)
  where
    go : (b d : Bool) → a x ≡ b → q x ≡ d → length (filter (λ x. a x && q x) xs) ≡ length (filter q (filter a xs))
        → length (filter (λ x. a x && q x) (x ∷ xs)) ≡ length (filter q (filter a (x ∷ xs)))
    go true true ea eq ih = rw (ea, eq) (omega arith)
    go true false ea eq ih = rw (ea, eq) ih
    go false d ea eq ih = rw ea ih

-- whatever a row is, and however it has its members
module _ {R : Type 0} (has : R → ℕ → Bool) where
  -- whether a row has n is b
  abbrev pub agrees : ℕ → Bool → R → Bool
  agrees n b r = cond (has r n) b (not b)

  -- the sets of k numbers below n are the rows, each once: decided number by number, from the highest
  abbrev pub exact : ℕ → ℕ → List R → Bool
  exact zero zero rows = single rows
  exact zero (suc k) rows = empty rows
  exact (suc n) zero rows = empty (filter (agrees n true) rows) && exact n zero (filter (agrees n false) rows)
  exact (suc n) (suc k) rows = exact n k (filter (agrees n true) rows) && exact n (suc k) (filter (agrees n false) rows)

  -- rows fall apart by whether they have n
  by_side : (n : ℕ) (P Q G : R → Type 0) → ((r : R) → has r n ≡ true → P r → G r) → ((r : R) → has r n ≡ false → Q r → G r)
      → (rows : List R) → All P (filter (agrees n true) rows) → All Q (filter (agrees n false) rows) → All G rows
  by_side n P Q G yes_n no_n [] p q = tt
  by_side n P Q G yes_n no_n (r ∷ rows) p q = go (has r n) refl (λ p' q'. by_side n P Q G yes_n no_n rows p' q')
    where
      go : (b : Bool) → has r n ≡ b → (All P (filter (agrees n true) rows) → All Q (filter (agrees n false) rows) → All G rows) → All G (r ∷ rows)
      go true e ih =
          let p' : P r × All P (filter (agrees n true) rows) = rw e at p in
          let q' : All Q (filter (agrees n false) rows) = rw e at q in
          (yes_n r e p'.0, ih p'.1 q')
      go false e ih =
          let p' : All P (filter (agrees n true) rows) = rw e at p in
          let q' : Q r × All Q (filter (agrees n false) rows) = rw e at q in
          (no_n r e q'.0, ih p' q'.1)

  -- each row has k members below n
  exact_sized : (n k : ℕ) (rows : List R) → T (exact n k rows) → All (λ r. count n (has r) ≡ k) rows
  exact_sized zero zero [] t = tt
  exact_sized zero zero (r ∷ rows) t = (refl, empty_all (λ r. count 0 (has r) ≡ 0) rows t)
  exact_sized zero (suc k) rows t = empty_all (λ r. count 0 (has r) ≡ suc k) rows t
  exact_sized (suc n) zero rows t =
      let ts = parts (empty (filter (agrees n true) rows)) (exact n zero (filter (agrees n false) rows)) t in
      by_side n (λ r. ⊥) (λ r. count n (has r) ≡ 0) (λ r. count (suc n) (has r) ≡ 0) (λ r e x. absurd x) (λ r e x. rw e x) rows
      (empty_all (λ r. ⊥) (filter (agrees n true) rows) ts.0) (exact_sized n zero (filter (agrees n false) rows) ts.1)
  exact_sized (suc n) (suc k) rows t =
      let ts = parts (exact n k (filter (agrees n true) rows)) (exact n (suc k) (filter (agrees n false) rows)) t in
      by_side n (λ r. count n (has r) ≡ k) (λ r. count n (has r) ≡ suc k) (λ r. count (suc n) (has r) ≡ suc k)
      (λ r e x. rw (e, x) refl) (λ r e x. rw e x) rows
      (exact_sized n k (filter (agrees n true) rows) ts.0) (exact_sized n (suc k) (filter (agrees n false) rows) ts.1)

  -- each set of k numbers below n is exactly one row
  exact_once : (n k : ℕ) (rows : List R) → T (exact n k rows) → (set : ℕ → Bool) → count n set ≡ k
      → length (filter (λ r. alike n (has r) set) rows) ≡ 1
  exact_once zero zero [] t set e = absurd t
  exact_once zero zero (r ∷ []) t set e = refl
  exact_once zero zero (r ∷ s ∷ rows) t set e = absurd t
  exact_once zero (suc k) rows t set e = absurd (omega arith)
  exact_once (suc n) zero rows t set e =
      let ts = parts (empty (filter (agrees n true) rows)) (exact n zero (filter (agrees n false) rows)) t in
      kept_both (λ r. agrees n (set n) r) (λ r. alike n (has r) set) rows ∙ go (set n) refl (exact_once n zero (filter (agrees n false) rows) ts.1 set)
    where
      go : (b : Bool) → set n ≡ b
          → (count n set ≡ 0 → length (filter (λ r. alike n (has r) set) (filter (agrees n false) rows)) ≡ 1)
          → length (filter (λ r. alike n (has r) set) (filter (agrees n b) rows)) ≡ 1
      go true eb out = absurd (omega (arith, rw eb at e))
      go false eb out = out (rw eb at e)
  exact_once (suc n) (suc k) rows t set e =
      let ts = parts (exact n k (filter (agrees n true) rows)) (exact n (suc k) (filter (agrees n false) rows)) t in
      kept_both (λ r. agrees n (set n) r) (λ r. alike n (has r) set) rows
      ∙ go (set n) refl (exact_once n k (filter (agrees n true) rows) ts.0 set) (exact_once n (suc k) (filter (agrees n false) rows) ts.1 set)
    where
      go : (b : Bool) → set n ≡ b
          → (count n set ≡ k → length (filter (λ r. alike n (has r) set) (filter (agrees n true) rows)) ≡ 1)
          → (count n set ≡ suc k → length (filter (λ r. alike n (has r) set) (filter (agrees n false) rows)) ≡ 1)
          → length (filter (λ r. alike n (has r) set) (filter (agrees n b) rows)) ≡ 1
      go true eb into out = into (omega (arith, rw eb at e))
      go false eb into out = out (rw eb at e)

  module _ (below : ℕ → R → Bool) where
    -- a table has rows, their members are below n, and the sets of k numbers below n are its rows, each once
    abbrev pub table_passes : ℕ → ℕ → List R → Bool
    table_passes n k table = not (empty table) && (every (below n) table && exact n k table)

    -- the same, of each row and of each set
    pub record Rule (n k : ℕ) (table : List R) : Type 0 where
      pub some : 0 < length table
      pub bounded : All (λ r. T (below n r)) table
      pub sized : All (λ r. count n (has r) ≡ k) table
      pub once : (set : ℕ → Bool) → count n set ≡ k → length (filter (λ r. alike n (has r) set) table) ≡ 1

    pub table_rule : (n k : ℕ) (table : List R) → T (table_passes n k table) → Rule n k table
    table_rule n k table t =
        let t₁ = parts (not (empty table)) (every (below n) table && exact n k table) t in
        let t₂ = parts (every (below n) table) (exact n k table) t₁.1 in
        record {
          some = not_empty table t₁.0;
          bounded = every_all (below n) table t₂.0;
          sized = exact_sized n k table t₂.1;
          once = exact_once n k table t₂.1;
        }
