-- Slots of an index: where a pair is looked for, by its hash.
use Rattle.std.specs.Prelude.{◌≡◌, ℕ, ◌-◌, ◌%◌, min, Bool, true, false, find, not, ◌||◌, if◌then◌else◌, List, ◌∷◌, ◌++◌, map, length, is_some, Some, None, count_by, Option, nat_lt, ◌==◌, slice_index_or}
use Rattle.std.specs.Option.{option_to_list}
use Rattle.std.specs.List.{range_with_len, flat_map, list_all}
use Rattle.seals.specs.Fnv.{fnv1a}
use Rattle.seals.specs.Registers.{Pair, among, is_pair}

-- the value of an empty slot
abbrev pub empty_slot : ℕ
empty_slot = 4294967295

-- a slot can hold the offset
abbrev pub holdable : Option ℕ → Bool
holdable None = false
holdable (Some offset) = nat_lt offset empty_slot

-- what a slot holds: nothing, or the entry at its offset
abbrev pub content : (ℕ → Option Pair) → ℕ → Option Pair
content entry slot = if slot == empty_slot then None else entry slot

-- what each slot holds
abbrev pub contents : (ℕ → Option Pair) → List ℕ → List (Option Pair)
contents entry slots = map (content entry) slots

-- every slot is empty or holds the offset of an entry
abbrev pub filled : (ℕ → Option Pair) → List ℕ → Bool
filled entry slots = list_all (λ slot. slot == empty_slot || is_some (entry slot)) slots

-- the pairs that slots hold
abbrev pub pairs_in : List (Option Pair) → List Pair
pairs_in cs = flat_map option_to_list cs

-- how many slots hold nothing
abbrev pub vacant : List (Option Pair) → ℕ
vacant cs = count_by (λ c. not (is_some c)) cs

-- the numbers of so many slots, from the first one tried to the last, and round
abbrev pub round : ℕ → ℕ → List ℕ
round start count = range_with_len start (count - start) ++ range_with_len 0 (min start count)

-- a slot that holds nothing or the pair ends a search
abbrev pub ends : ℕ → List ℕ → Option Pair → Bool
ends replica bytes None = true
ends replica bytes (Some p) = is_pair p replica bytes

-- whether a search for the pair ends at a slot
abbrev pub ends_at : List (Option Pair) → ℕ → List ℕ → ℕ → Bool
ends_at cs replica bytes slot = ends replica bytes (slice_index_or cs slot None)

-- the slot that a search through all slots ends at, from the one that the pair's hash names
abbrev pub probed : List (Option Pair) → ℕ → List ℕ → Option ℕ
probed cs replica bytes = find (ends_at cs replica bytes) (round (fnv1a (replica ∷ bytes) % length cs) (length cs))

-- whether a search that ended there found the pair
abbrev pub is_known : List (Option Pair) → Option ℕ → Bool
is_known cs None = false
is_known cs (Some k) = is_some (slice_index_or cs k None)

-- the search finds each pair that a slot holds
abbrev pub Reached : List (Option Pair) → Type 0
Reached cs = (replica : ℕ) (bytes : List ℕ) → is_known cs (probed cs replica bytes) ≡ among (pairs_in cs) replica bytes
