-- Sealing as it moves the set of sealed pairs.
use Rattle.std.proofs.Common.{◌≡◌, ℕ, Bool, true, false, not, ◌||◌, eqb, List, [], ◌∷◌, ◌++◌, length, Ok, Err, Result, sym, refl}
use mathlib.Core.Path.{fun_ext}
use Rattle.std.specs.Str.{bytes_eq}
use Rattle.std.proofs.Math.Bool.{or-false}
use Rattle.std.proofs.lemmas.List.Folds.{list_any-append}
use Rattle.std.proofs.lemmas.Bool.{eqb-true, and_parts, and_right, both_ways, cond-true, or_right}
use Rattle.std.proofs.lemmas.Slice.Eq.{bytes_eq-Decides}
use Rattle.seals.specs.declared.fault.RegisterFault.{RegisterFault}
use Rattle.seals.specs.declared.fault.RegisterFault.TheVariants.{Full}
use Rattle.seals.specs.Registers.{Pair, RegisterState, is_pair, added, adds, after_sealing, among, sealing, with_pair}

-- a pair is the one with its replica and bytes
pub pair_eq : (p : Pair) (r : ℕ) (bs : List ℕ) → is_pair p r bs ≡ true → (p.0 ≡ r) × (p.1 ≡ bs)
pair_eq p r bs e =
    let k = and_parts (eqb p.0 r) (bytes_eq p.1 bs) e in
    (eqb-true p.0 r k.0, (bytes_eq-Decides p.1 bs).0 k.1)

-- sealing a known pair adds nothing
pub added_known : (sealed : ℕ → List ℕ → Bool) (replica : ℕ) (bytes : List ℕ) → sealed replica bytes ≡ true → sealed ≡ added sealed replica bytes
added_known sealed replica bytes k = fun_ext (λ r. fun_ext (λ bs. at_pair r bs (is_pair (replica, bytes) r bs) refl))
  where
    at_pair : (r : ℕ) (bs : List ℕ) (b : Bool) → is_pair (replica, bytes) r bs ≡ b → sealed r bs ≡ (sealed r bs || b)
    at_pair r bs false e = sym (or-false (sealed r bs))
    at_pair r bs true e = let q = pair_eq (replica, bytes) r bs e in rw (← q.0, ← q.1, k)

-- a pair at the end of a list is sealed besides the others
pub among_push : (ps : List Pair) (replica : ℕ) (bytes : List ℕ) → among (ps ++ (replica, bytes) ∷ []) ≡ added (among ps) replica bytes
among_push ps replica bytes = fun_ext (λ r. fun_ext (λ bs. rw (list_any-append, or-false)))

-- what `seal` owes: its answer, what it leaves, and that it accepts what fits
pub record Seals (state state' : RegisterState) (replica : ℕ) (bytes : List ℕ) (result : Result Unit RegisterFault) : Type 0 where
  pub answer : result ≡ sealing state replica bytes
  pub leaves : state' ≡ after_sealing state replica bytes
  pub succeeds : state.fits (length bytes) ≡ true → result ≡ Ok tt

-- the three ways of sealing: a known pair, a new one that fits, and a new one that does not
module _ (state : RegisterState) (replica : ℕ) (bytes : List ℕ) where
  pub known : state.sealed replica bytes ≡ true → Seals state state replica bytes (Ok tt)
  known k = record { answer = rw k; leaves = rw k; succeeds = λ _. refl }

  pub new : state.sealed replica bytes ≡ false → state.fits (length bytes) ≡ true → Seals state (with_pair state replica bytes) replica bytes (Ok tt)
  new n f = record { answer = rw (n, f); leaves = rw (n, f); succeeds = λ _. refl }

  pub full : state.sealed replica bytes ≡ false → state.fits (length bytes) ≡ false → Seals state state replica bytes (Err Full)
  full n f = record { answer = rw (n, f); leaves = rw (n, f); succeeds = λ t. absurd (both_ways _ f t) }

  pub fits_accepted : state.fits (length bytes) ≡ true → sealing state replica bytes ≡ Ok tt
  fits_accepted f = rw f (cond-true _ _ _ (or_right (state.sealed replica bytes) true refl))

  -- an accepted pair is sealed beside those before, and a refused one alters nothing
  pub accepted : sealing state replica bytes ≡ Ok tt → (after_sealing state replica bytes).sealed ≡ added state.sealed replica bytes
  accepted e = by_tests (state.sealed replica bytes) (state.fits (length bytes)) refl refl
    where
      by_tests : (k f : Bool) → state.sealed replica bytes ≡ k → state.fits (length bytes) ≡ f → (after_sealing state replica bytes).sealed ≡ added state.sealed replica bytes
      by_tests true f p q = rw (p) (added_known state.sealed replica bytes p)
      by_tests false true p q = rw (p, q)
      by_tests false false p q = let r : sealing state replica bytes ≡ Err Full = rw (p, q) in let z : ⊥ = cc in absurd z

  pub refused : sealing state replica bytes ≡ Err Full → after_sealing state replica bytes ≡ state
  refused e = by_tests (state.sealed replica bytes) (state.fits (length bytes)) refl refl
    where
      by_tests : (k f : Bool) → state.sealed replica bytes ≡ k → state.fits (length bytes) ≡ f → after_sealing state replica bytes ≡ state
      by_tests true f p q = rw p
      by_tests false true p q = let r : sealing state replica bytes ≡ Ok tt = rw (p, q) in let z : ⊥ = cc in absurd z
      by_tests false false p q = rw (p, q)

-- which way of sealing adds a pair
module _ (sealed : ℕ → List ℕ → Bool) (fits : ℕ → Bool) (replica : ℕ) (bytes : List ℕ) where
  pub known_adds : sealed replica bytes ≡ true → adds sealed fits replica bytes ≡ false
  known_adds k = rw k

  pub new_adds : sealed replica bytes ≡ false → fits (length bytes) ≡ true → adds sealed fits replica bytes ≡ true
  new_adds n f = rw (n, f)

  pub full_adds : fits (length bytes) ≡ false → adds sealed fits replica bytes ≡ false
  full_adds f = and_right (not (sealed replica bytes)) (fits (length bytes)) f
