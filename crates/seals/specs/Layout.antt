-- Entries as bytes: replica (1), length (2, big endian), bytes.
use Rattle.std.specs.Prelude.{◌≡◌, ℕ, zero, suc, ◌+◌, ◌*◌, ◌/◌, ◌%◌, Bool, true, if◌then◌else◌, List, [], ◌∷◌, length, take, drop, Some, None, Option, nat_le, nat_lt, slice_index}
use Rattle.std.specs.List.{flat_map, list_all}
use Rattle.seals.specs.declared.entry.Entry.{Entry}
use Rattle.seals.specs.Registers.{Pair}

-- the pair that an entry holds
abbrev pub pair_of : Entry → Pair
pair_of e = (e.replica, e.bytes.now)

-- an entry as bytes
abbrev pub packed : Pair → List ℕ
packed p = p.0 ∷ (length p.1 / 256 % 256) ∷ (length p.1 % 256) ∷ p.1

-- how many bytes an entry takes
abbrev pub width : Pair → ℕ
width p = 3 + length p.1

-- the length that the first entry's head gives
abbrev pub size : List ℕ → ℕ
size bs = slice_index bs 1 * 256 + slice_index bs 2

-- the entry that these bytes begin with, if they hold it whole
abbrev pub first : List ℕ → Option Pair
first bs = if nat_lt (length bs) (3 + size bs) then None else Some (slice_index bs 0, take (size bs) (drop 3 bs))

-- the first entry, if there is one, and those behind it
abbrev pub before : Option Pair → (Pair → List Pair) → List Pair
before None rest = []
before (Some p) rest = p ∷ rest p

-- at most n entries that these bytes begin with, one after another
unfoldable pub walked : ℕ → List ℕ → List Pair
walked zero bs = []
walked (suc n) bs = before (first bs) (λ p. walked n (drop (width p) bs))

-- the entries that these bytes begin with
abbrev pub entries : List ℕ → List Pair
entries bs = walked (length bs) bs

-- every entry has a length that two bytes can give
abbrev pub all_short : List Pair → Bool
all_short ps = list_all (λ p. nat_le (length p.1) 65535) ps

-- these bytes are entries one after another, and nothing else
abbrev pub Whole : List ℕ → Type 0
Whole bs = (flat_map packed (entries bs) ≡ bs) × (all_short (entries bs) ≡ true)
