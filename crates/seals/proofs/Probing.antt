-- Searching an index slot by slot: what the slot that a search ends at tells.
use Rattle.std.proofs.Common.{◌≡◌, ℕ, ◌-◌, ◌%◌, ◌<◌, Bool, true, false, List, [], ◌∷◌, ◌++◌, length, Some, None, Option, sym, ap, ◌∙◌, le_of_lt, arith}
use native.Mathlib.Nat.{min-eq_left, sub-zero}
use Rattle.std.specs.List.{range_with_len, find, AllByRecursion as All}
use Rattle.std.specs.Option.{option_or}
use Rattle.std.proofs.lemmas.List.Folds.{find-append}
use Rattle.seals.specs.Fnv.{fnv1a}
use Rattle.seals.specs.Registers.{Pair}
use Rattle.seals.specs.Slots.{ends_at, probed, round}

module _ (t : ℕ → Bool) (k : ℕ) where
  -- the number that is found passes the test, and has what all numbers have
  pub found_passes : (ks : List ℕ) → find t ks ≡ Some k → t k ≡ true
  found_passes [] e = grind arith
  found_passes (j ∷ ks) e = grind (arith, found_passes ks)

  pub found_within : (P : ℕ → Type 0) (ks : List ℕ) → All P ks → find t ks ≡ Some k → P k
  found_within P [] a e = grind arith
  found_within P (j ∷ ks) a e = grind (arith, found_within P ks)

  -- another test that passes it and fails where the first one fails finds the same
  pub found_same : (u : ℕ → Bool) → ((j : ℕ) → t j ≡ false → u j ≡ false) → u k ≡ true → (ks : List ℕ) → find t ks ≡ Some k → find u ks ≡ Some k
  found_same u fails passes [] e = grind arith
  found_same u fails passes (j ∷ ks) e = grind (arith, fails, passes, found_same u fails passes ks)

-- where nothing is found, all fail
pub found_none : (t : ℕ → Bool) (ks : List ℕ) → find t ks ≡ None → All (λ k. t k ≡ false) ks
found_none t [] e = tt
found_none t (k ∷ ks) e = grind (arith, found_none t ks)

-- the numbers of all slots, from a first one on and round
round_parts : (start count : ℕ) → start < count → round start count ≡ range_with_len start (count - start) ++ range_with_len 0 (start - 0)
round_parts start count lt = ap (λ n. range_with_len start (count - start) ++ range_with_len 0 n) (min-eq_left (le_of_lt lt) ∙ sym (sub-zero start))

module _ (cs : List (Option Pair)) (replica : ℕ) (bytes : List ℕ) where
  abbrev searched : List ℕ → Option ℕ
  searched ks = find (ends_at cs replica bytes) ks

  -- a search through all slots, as the code makes it
  pub probed_parts : (start count : ℕ) → length cs ≡ count → start ≡ fnv1a (replica ∷ bytes) % count → start < count
      → probed cs replica bytes ≡ option_or (searched (range_with_len start (count - start))) (searched (range_with_len 0 (start - 0)))
  probed_parts start count l s lt =
      ap (λ n. searched (round (fnv1a (replica ∷ bytes) % n) n)) l ∙ ap (λ k. searched (round k count)) (sym s) ∙ ap searched (round_parts start count lt)
      ∙ find-append (ends_at cs replica bytes) (range_with_len start (count - start)) (range_with_len 0 (start - 0))
