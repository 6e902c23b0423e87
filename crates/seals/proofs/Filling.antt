-- Slots as a list of contents: what they hold before and after one is filled.
use Rattle.std.proofs.Common.{◌≡◌, ℕ, zero, suc, ◌+◌, ◌-◌, ◌<◌, ◌≤◌, min, true, false, cond, not, ◌||◌, eqb, List, [], ◌∷◌, ◌++◌, length, get_or, set, is_some, Some, None, Option, refl, ap, ◌∙◌, subst, ⊎_elim, le_of_lt, arith}
use native.Mathlib.Nat.{min-eq_left, min-le_right}
use Rattle.std.specs.List.{range_with_len, AllByRecursion as All}
use Rattle.std.proofs.lemmas.Bool.{cases_lt, cases_eq, and_parts, ne_eqb}
use Rattle.std.proofs.ByRecursion.{All-append}
use Rattle.std.proofs.lemmas.List.{map-set}
use Rattle.std.proofs.lemmas.List.Sums.{sum_by-cons, sum_by-set, get_or-le-sum_by}
use Rattle.seals.specs.Registers.{Pair, among, is_pair}
use Rattle.seals.specs.Slots.{content, contents, empty_slot, filled, pairs_in, vacant, round}
use Rattle.std.proofs.Math.Bool.{or_assoc, or_comm}

-- 1 for a slot that holds nothing
abbrev count_of : Option Pair → ℕ
count_of c = cond (not (is_some c)) 1 0

all_counting : (P : ℕ → Type 0) (a n : ℕ) → ((k : ℕ) → a ≤ k → k < a + n → P k) → All P (range_with_len a n)
all_counting P a zero h = tt
all_counting P a (suc n) h = (h a (omega arith) (omega arith), all_counting P (a + 1) n (λ k le lt. h k (omega arith) (omega arith)))

counting_all : (P : ℕ → Type 0) (a n : ℕ) → All P (range_with_len a n) → (k : ℕ) → a ≤ k → k < a + n → P k
counting_all P a zero h k le lt = absurd (omega arith)
counting_all P a (suc n) h k le lt = ⊎_elim (λ e. subst P e h.0) (λ ne. counting_all P (a + 1) n h.1 k (omega arith) (omega arith)) (cases_eq a k)

-- going round tries slots that there are, and all of them
pub round_within : (start count : ℕ) → All (λ k. k < count) (round start count)
round_within start count =
    All-append (λ k. k < count) (range_with_len start (count - start)) (range_with_len 0 (min start count))
    (all_counting (λ k. k < count) start (count - start) (λ k le lt. omega arith))
    (all_counting (λ k. k < count) 0 (min start count) (λ k le lt. omega (arith, min-le_right start count)))

pub round_all : (P : ℕ → Type 0) (start count : ℕ) → start < count → All P (round start count) → (k : ℕ) → k < count → P k
round_all P start count s a k lt =
    let h = all_split P (range_with_len start (count - start)) (range_with_len 0 (min start count)) a in
    ⊎_elim (λ below. counting_all P 0 (min start count) h.1 k (omega arith) (omega (arith, min-eq_left (le_of_lt s))))
    (λ above. counting_all P start (count - start) h.0 k above (omega arith))
    (cases_lt k start)
  where
    all_split : (Q : ℕ → Type 0) (xs ys : List ℕ) → All Q (xs ++ ys) → All Q xs × All Q ys
    all_split Q [] ys h = (tt, h)
    all_split Q (x ∷ xs) ys h = let r = all_split Q xs ys h.1 in ((h.0, r.0), r.1)

-- a pair that a slot holds is among those held
pub held_among : (cs : List (Option Pair)) (k : ℕ) (p : Pair) (replica : ℕ) (bytes : List ℕ)
    → get_or cs k None ≡ Some p → is_pair p replica bytes ≡ true → among (pairs_in cs) replica bytes ≡ true
held_among [] k p replica bytes e t = grind arith
held_among (None ∷ cs) zero p replica bytes e t = grind arith
held_among (None ∷ cs) (suc k) p replica bytes e t = held_among cs k p replica bytes e t
held_among (Some q ∷ cs) zero p replica bytes e t = grind arith
held_among (Some q ∷ cs) (suc k) p replica bytes e t = grind (arith, held_among cs k p replica bytes e t)

-- filling a vacant slot adds its pair to those held
pub among_fill : (cs : List (Option Pair)) (k : ℕ) (p : Pair) (replica : ℕ) (bytes : List ℕ)
    → k < length cs → get_or cs k None ≡ None → among (pairs_in (set cs k (Some p))) replica bytes ≡ (among (pairs_in cs) replica bytes || is_pair p replica bytes)
among_fill [] k p replica bytes lt e = absurd (omega arith)
among_fill (None ∷ cs) zero p replica bytes lt e = or_comm (is_pair p replica bytes) (among (pairs_in cs) replica bytes)
among_fill (None ∷ cs) (suc k) p replica bytes lt e = among_fill cs k p replica bytes (omega arith) e
among_fill (Some q ∷ cs) zero p replica bytes lt e = grind arith
among_fill (Some q ∷ cs) (suc k) p replica bytes lt e = rw (among_fill cs k p replica bytes (omega arith) e, or_assoc)

-- filling a vacant slot leaves one fewer
pub vacant_fill : (cs : List (Option Pair)) (k : ℕ) (p : Pair) → k < length cs → get_or cs k None ≡ None → vacant (set cs k (Some p)) + 1 ≡ vacant cs
vacant_fill cs k p lt e =
    let one : count_of (get_or cs k None) ≡ 1 = ap count_of e in
    let s : vacant (set cs k (Some p)) + count_of (get_or cs k None) ≡ vacant cs + 0 = sum_by-set count_of cs k (Some p) None lt in
    omega arith

pub vacant_some : (cs : List (Option Pair)) (k : ℕ) → k < length cs → get_or cs k None ≡ None → 0 < vacant cs
vacant_some cs k lt e =
    let one : count_of (get_or cs k None) ≡ 1 = ap count_of e in
    let s : count_of (get_or cs k None) ≤ vacant cs = get_or-le-sum_by count_of cs k None lt in
    omega arith

pub vacant_none : (cs : List (Option Pair)) → ((k : ℕ) → k < length cs → is_some (get_or cs k None) ≡ true) → vacant cs ≡ 0
vacant_none [] h = refl
vacant_none (c ∷ cs) h =
    let v : count_of c ≡ 0 = ap (λ b. cond (not b) 1 0) (h 0 (omega arith)) in
    let r : vacant cs ≡ 0 = vacant_none cs (λ k lt. h (suc k) (omega arith)) in
    sum_by-cons count_of c cs ∙ omega arith

module _ (before after : ℕ → Option Pair) (kept : (offset : ℕ) (p : Pair) → before offset ≡ Some p → after offset ≡ Some p) where
  -- a slot that is empty or holds the offset of an entry holds the same where entries are kept
  slot_kept : (slot : ℕ) (o : Option Pair) → before slot ≡ o → (eqb slot empty_slot || is_some o) ≡ true → content after slot ≡ content before slot
  slot_kept slot None e t = grind arith
  slot_kept slot (Some p) e t = grind (arith, kept slot p e)

  slot_filled : (slot : ℕ) (o : Option Pair) → before slot ≡ o → (eqb slot empty_slot || is_some o) ≡ true → (eqb slot empty_slot || is_some (after slot)) ≡ true
  slot_filled slot None e t = grind arith
  slot_filled slot (Some p) e t = grind (arith, kept slot p e)

  -- entries that stay as they are leave the contents as they are
  pub contents_kept : (slots : List ℕ) → filled before slots ≡ true → contents after slots ≡ contents before slots
  contents_kept [] f = refl
  contents_kept (slot ∷ slots) f =
      let k = and_parts (eqb slot empty_slot || is_some (before slot)) (filled before slots) f in
      rw (slot_kept slot (before slot) refl k.0, contents_kept slots k.1)

  pub filled_kept : (slots : List ℕ) → filled before slots ≡ true → filled after slots ≡ true
  filled_kept [] f = refl
  filled_kept (slot ∷ slots) f =
      let k = and_parts (eqb slot empty_slot || is_some (before slot)) (filled before slots) f in
      rw (slot_filled slot (before slot) refl k.0, filled_kept slots k.1)

  pub filled_set : (slots : List ℕ) (k offset : ℕ) → filled before slots ≡ true → is_some (after offset) ≡ true → filled after (set slots k offset) ≡ true
  filled_set [] k offset f s = refl
  filled_set (slot ∷ slots) zero offset f s =
      let r = and_parts (eqb slot empty_slot || is_some (before slot)) (filled before slots) f in
      grind (arith, filled_kept slots r.1)
  filled_set (slot ∷ slots) (suc k) offset f s =
      let r = and_parts (eqb slot empty_slot || is_some (before slot)) (filled before slots) f in
      rw (slot_filled slot (before slot) refl r.0, filled_set slots k offset r.1 s)

  -- an entry's offset put into a slot makes its pair the slot's content
  pub contents_put : (slots : List ℕ) (k offset : ℕ) (p : Pair) → filled before slots ≡ true → offset < empty_slot → after offset ≡ Some p
      → contents after (set slots k offset) ≡ set (contents before slots) k (Some p)
  contents_put slots k offset p f lt e =
      let n : eqb offset empty_slot ≡ false = ne_eqb offset empty_slot (λ q. omega arith) in
      let c : content after offset ≡ Some p = rw (n, e) in
      map-set (content after) slots k offset ∙ rw (contents_kept slots f, c)
