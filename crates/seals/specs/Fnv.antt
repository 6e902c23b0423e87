-- FNV-1a with 32 bits.
use Rattle.std.specs.Prelude.{ℕ, ◌*◌, ◌%◌, ◌^◌, List, bit_xor, fold}

-- the hash once it has taken in one more byte
abbrev pub step : ℕ → ℕ → ℕ
step hash byte = (bit_xor hash byte * 16777619) % 2 ^ 32

-- the hash of these bytes
abbrev pub fnv1a : List ℕ → ℕ
fnv1a bytes = fold step 2166136261 bytes
