-- What is made, once a replica made a statement or none.
use Rattle.std.proofs.Common.{◌≡◌, ℕ, Bool, ◌⊎◌, List, Some, None, Option, refl, inl, arith}
use Rattle.std.proofs.lemmas.Bool.Decides.{nat_tests}
use Rattle.std.proofs.lemmas.Slice.Eq.{bytes_eq-Decides}
use Rattle.wire.specs.declared.config.ClusterConfig.{ClusterConfig}
use Rattle.wire.specs.Statements.{Statement}
use Rattle.protocol.specs.Certificates.{message}
use Rattle.protocol.specs.Receipts.{Made}
use Rattle.protocol.specs.Steps.{Verdict, refused, accepted}
use Rattle.protocol.specs.Verdicts.{sealed_after, added}
use Rattle.protocol.proofs.Grow.{InRange}
use Rattle.protocol.proofs.Known.{made_after}

-- the statement that a verdict seals
abbrev pub statement_of : Verdict → Option Statement
statement_of (refused fault) = None
statement_of (accepted s effect statement answer) = statement

-- what is sealed, once replica h made a statement or none
abbrev pub sealed_said : (ℕ → List ℕ → Bool) → (h : ℕ) → Option Statement → ℕ → List ℕ → Bool
sealed_said sealed h None = sealed
sealed_said sealed h (Some st) = added sealed h (message h st)

pub sealed_is : (sealed : ℕ → List ℕ → Bool) (h : ℕ) (verdict : Verdict) → sealed_after sealed h verdict ≡ sealed_said sealed h (statement_of verdict)
sealed_is sealed h (refused fault) = refl
sealed_is sealed h (accepted s effect None answer) = refl
sealed_is sealed h (accepted s effect (Some st) answer) = refl

module _ (config : ClusterConfig) (sealed : ℕ → List ℕ → Bool) (h : ℕ) where
  pub said_kept : (statement : Option Statement) (g : ℕ) (st : Statement) → Made config sealed g st → Made config (sealed_said sealed h statement) g st
  said_kept statement g st made = grind arith

  pub said_by_others : (statement : Option Statement) (g : ℕ) (st : Statement) → (g ≡ h → ⊥) → Made config (sealed_said sealed h statement) g st → Made config sealed g st
  said_by_others statement g st apart made = grind (arith, nat_tests)

  pub said_new : (statement : Option Statement) → InRange config h statement → (st : Statement) → statement ≡ Some st → Made config (sealed_said sealed h statement) h st
  said_new None range st e = cc
  said_new (Some new) range st e = let is : new ≡ st = cc in rw (← is) (range, grind (arith, nat_tests, bytes_eq-Decides (message h new) (message h new)))

  pub said_only : (statement : Option Statement) → InRange config h statement → (st : Statement) → Made config (sealed_said sealed h statement) h st
      → Made config sealed h st ⊎ (statement ≡ Some st)
  said_only None range st made = inl made
  said_only (Some new) range st made = grind (arith, made_after config sealed h new range h st made)
