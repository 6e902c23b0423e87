-- What a register means, and what sealing does to it.
use Rattle.std.specs.Prelude.{ℕ, Bool, false, not, ◌&&◌, ◌||◌, List, [], ◌∷◌, if◌then◌else◌, length, Ok, Err, Result, ◌==◌}
use Rattle.std.specs.List.{list_any}
use Rattle.std.specs.Str.{bytes_eq}
use Rattle.seals.specs.declared.fault.RegisterFault.{RegisterFault}
use Rattle.seals.specs.declared.fault.RegisterFault.TheVariants.{Full}

-- a replica and the bytes that it sealed
abbrev pub Pair : Type 0
Pair = ℕ × List ℕ

-- what a register means: whether a pair is sealed, whether a new pair with so many bytes fits,
-- and whether it fits once these new pairs were sealed
pub record RegisterState : Type 0 where
  pub sealed : ℕ → List ℕ → Bool
  pub fits : ℕ → Bool
  pub then_fits : List Pair → ℕ → Bool

-- no pair is sealed
abbrev pub nothing : ℕ → List ℕ → Bool
nothing replica bytes = false

-- whether this is the pair of a replica and bytes
abbrev pub is_pair : Pair → ℕ → List ℕ → Bool
is_pair p replica bytes = p.0 == replica && bytes_eq p.1 bytes

-- the pairs that are sealed, once this one is
abbrev pub added : (ℕ → List ℕ → Bool) → ℕ → List ℕ → ℕ → List ℕ → Bool
added sealed replica bytes r bs = sealed r bs || is_pair (replica, bytes) r bs

-- whether sealing adds a new pair
abbrev pub adds : (ℕ → List ℕ → Bool) → (ℕ → Bool) → ℕ → List ℕ → Bool
adds sealed fits replica bytes = not (sealed replica bytes) && fits (length bytes)

-- what is said of a list of further pairs, once this is the first of them
abbrev pub after : {X : Type 0} → (List Pair → X) → Pair → List Pair → X
after says p ps = says (p ∷ ps)

-- sealing is refused exactly when the pair is new and does not fit
abbrev pub sealing : RegisterState → ℕ → List ℕ → Result Unit RegisterFault
sealing state replica bytes = if state.sealed replica bytes || state.fits (length bytes) then Ok tt else Err Full

-- a register with one more pair
abbrev pub with_pair : RegisterState → ℕ → List ℕ → RegisterState
with_pair state replica bytes =
    record {
      sealed = added state.sealed replica bytes;
      fits = state.then_fits ((replica, bytes) ∷ []);
      then_fits = after state.then_fits (replica, bytes);
    }

-- sealing adds a new pair that fits, and alters nothing otherwise
abbrev pub after_sealing : RegisterState → ℕ → List ℕ → RegisterState
after_sealing state replica bytes = if adds state.sealed state.fits replica bytes then with_pair state replica bytes else state

-- whether a list has this pair
abbrev pub among : List Pair → ℕ → List ℕ → Bool
among ps replica bytes = list_any (λ p. is_pair p replica bytes) ps
