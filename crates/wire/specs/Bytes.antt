-- Numbers as bytes, the highest byte first.
use Rattle.std.specs.Prelude.{ℕ, zero, suc, ◌+◌, ◌*◌, ◌/◌, ◌%◌, ◌^◌, ◌<◌, List, [], ◌∷◌, slice_index}

-- the number in the bytes of a width at an offset
abbrev pub num : List ℕ → ℕ → ℕ → ℕ
num bs at zero = 0
num bs at (suc width) = slice_index bs at * 256 ^ width + num bs (suc at) width

-- the bytes of a number, to a width
abbrev pub be : ℕ → ℕ → List ℕ
be zero x = []
be (suc width) x = x / 256 ^ width % 256 ∷ be width x

-- each number of the list is a byte
abbrev pub Bytes : List ℕ → Type 0
Bytes bs = (i : ℕ) → slice_index bs i < 256
