-- The table of digits: it is ASCII, and the digits of each byte stand in their place.
use Rattle.std.proofs.Common.{◌≡◌, ℕ, zero, suc, ◌+◌, ◌*◌, ◌/◌, ◌%◌, ◌<◌, ◌≤◌, Bool, true, ◌&&◌, ◌==◌, nat_lt, List, [], ◌∷◌, length, get_or, refl, ◌∙◌, arith}
use Rattle.std.proofs.lemmas.Grind.{common_steps}
use Rattle.std.proofs.lemmas.Str.{IsCharBoundary-from_ascii}
use Rattle.std.proofs.lemmas.Str.Ascii.{IsAscii-cons, IsAscii-nil}
use Rattle.std.specs.List.{list_all, slice_range}
use Rattle.std.specs.Str.{IsAscii, IsCharBoundary}
use Rattle.scenario.specs.declared.words.TheConstants.{PAIRS}
use Rattle.scenario.specs.Hex.{glyph, digits_of}

-- a test passes below a number
abbrev pub passes : (ℕ → Bool) → ℕ → Bool
passes p zero = true
passes p (suc n) = p n && passes p n

passes_at : (p : ℕ → Bool) (n k : ℕ) → passes p n ≡ true → k < n → p k ≡ true
passes_at p zero k all l = absurd (omega arith)
passes_at p (suc n) k all l = grind (arith, common_steps, passes_at p n k)

-- the two digits of b stand at 2 * b
abbrev pub has_pair : List ℕ → ℕ → Bool
has_pair table b = (get_or table (2 * b) 0 == glyph (b / 16)) && (get_or table (2 * b + 1) 0 == glyph (b % 16))

two_at : (table : List ℕ) (i : ℕ) → i + 2 ≤ length table → slice_range table i (i + 2) ≡ get_or table i 0 ∷ get_or table (i + 1) 0 ∷ []
two_at table i within = grind (arith, common_steps)

same_two : (x y a b : ℕ) → ((x == a) && (y == b)) ≡ true → x ∷ y ∷ [] ≡ a ∷ b ∷ []
same_two x y a b same = grind (arith, common_steps)

pair_in : (table : List ℕ) (b : ℕ) → length table ≡ 512 → passes (has_pair table) 256 ≡ true → b < 256 → slice_range table (2 * b) (2 * b + 2) ≡ digits_of b
pair_in table b len all l = two_at table (2 * b) (omega arith) ∙ same_two _ _ _ _ (passes_at (has_pair table) 256 b all l)

ascii : (table : List ℕ) → list_all (λ b. nat_lt b 128) table ≡ true → IsAscii table
ascii [] all = IsAscii-nil
ascii (b ∷ table) all = IsAscii-cons b table (grind (arith, common_steps)) (ascii table (grind (arith, common_steps)))

pub boundary : (i : ℕ) → i ≤ 512 → IsCharBoundary PAIRS.now i
boundary i within = IsCharBoundary-from_ascii PAIRS.now i (ascii PAIRS.now refl) within

pub pair_at : (b : ℕ) → b < 256 → slice_range PAIRS.now (2 * b) (2 * b + 2) ≡ digits_of b
pair_at b l = pair_in PAIRS.now b refl refl l
