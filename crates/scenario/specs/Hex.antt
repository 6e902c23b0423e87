-- Bytes written by pairs of hexadecimal digits.
use Rattle.std.specs.Prelude.{◌≡◌, ℕ, ◌+◌, ◌/◌, ◌%◌, cond, List, [], ◌∷◌, Some, None, Option, nat_lt}
use Rattle.std.specs.List.{flat_map}
use Rattle.std.specs.Option.{option_map}
use Rattle.wire.specs.Bytes.{Bytes}
use Rattle.scenario.specs.Numbers.{after, numeral}

-- the byte that two digits write
abbrev pub pair : ℕ → ℕ → Option ℕ
pair high low = numeral 16 (high ∷ low ∷ [])

-- the bytes that pairs of digits write; an odd digit makes none
abbrev pub bytes_of : List ℕ → Option (List ℕ)
bytes_of [] = Some []
bytes_of (high ∷ []) = None
bytes_of (high ∷ low ∷ word) = after (pair high low) (λ b. option_map (λ bs. b ∷ bs) (bytes_of word))

-- the lower-case digit for a value
abbrev pub glyph : ℕ → ℕ
glyph d = cond (nat_lt d 10) (48 + d) (87 + d)

-- the two digits that are printed for a byte
abbrev pub digits_of : ℕ → List ℕ
digits_of b = glyph (b / 16) ∷ glyph (b % 16) ∷ []

-- the digits that are printed for bytes
abbrev pub printed : List ℕ → List ℕ
printed bs = flat_map digits_of bs

-- printed bytes read back are the same bytes
abbrev pub ReadsBack : List ℕ → Type 0
ReadsBack bs = Bytes bs → bytes_of (printed bs) ≡ Some bs
