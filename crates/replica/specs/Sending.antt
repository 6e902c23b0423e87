-- Room for a message, and what sealing one at the start of the lent buffer leaves.
use Rattle.std.specs.Prelude.{◌≡◌, ℕ, List, ◌++◌, length, drop, Ok, Err, Result, nat_le, if◌then◌else◌}
use Rattle.seals.specs.declared.fault.RegisterFault.TheVariants.{Full}
use Rattle.seals.specs.Registers.{RegisterState, added, after_sealing}
use Rattle.protocol.specs.declared.fault.ReplicaFault.{ReplicaFault}
use Rattle.protocol.specs.declared.fault.ReplicaFault.TheVariants.{Register, ShortBuffer}

-- whether a message of so many bytes has room in a buffer of so many, and in the register
abbrev pub room_for : ℕ → (space : ℕ) → RegisterState → Result (Unit {0}) ReplicaFault
room_for n space register = if nat_le n space then (if register.fits n then Ok tt else Err (Register Full)) else Err ShortBuffer

-- replica h sealed the bytes
pub record Sealed (h : ℕ) (bytes : List ℕ) (register register' : RegisterState) : Type 0 where
  pub pairs : register'.sealed ≡ added register.sealed h bytes
  pub all : register' ≡ after_sealing register h bytes

-- the bytes stand at the start of the buffer, the later bytes as they were
abbrev pub Starts : (bytes out out' : List ℕ) → Type 0
Starts bytes out out' = out' ≡ bytes ++ drop (length bytes) out
