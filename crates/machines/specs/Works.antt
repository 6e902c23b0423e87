-- The fields of a work.
use Rattle.std.specs.Prelude.{ℕ, ◌+◌, ◌-◌, ◌*◌, ◌/◌, ◌%◌, ◌^◌}

-- the number that stands in a work's bytes from `at` on; a work has eight bytes, the highest first
abbrev pub field : (at width work : ℕ) → ℕ
field at width work = work / 256 ^ (8 - (at + width)) % 256 ^ width

-- a value in the field of a work
abbrev pub placed : (at width value : ℕ) → ℕ
placed at width value = value * 256 ^ (8 - (at + width))
