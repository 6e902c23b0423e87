-- The ranges of a request's fields.
use Rattle.std.specs.Prelude.{ℕ, ◌^◌, Bool, ◌&&◌, nat_lt}

-- a client is never 0; the fields have two, four and eight bytes
abbrev pub in_range : ℕ → ℕ → ℕ → Bool
in_range client stamp work = nat_lt 0 client && (nat_lt client (2 ^ 16) && (nat_lt stamp (2 ^ 32) && nat_lt work (2 ^ 64)))
