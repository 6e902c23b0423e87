-- Bytes written over a buffer.
use Rattle.std.specs.Prelude.{ℕ, ◌+◌, List, ◌++◌, length, take, drop}

-- the buffer with other bytes from an offset on
abbrev pub over : ℕ → (bytes buffer : List ℕ) → List ℕ
over at bytes buffer = take at buffer ++ (bytes ++ drop (at + length bytes) buffer)
