-- Turning to the next view, by a doubt of its own or one that is heard, keeps what an honest replica keeps.
use Rattle.std.proofs.Common.{◌≡◌, ℕ, ◌<◌, Bool, List, Some, None, Option, arith}
use Rattle.std.proofs.lemmas.Bool.Decides.{nat_tests}
use Rattle.wire.specs.Kinds.{last_view}
use Rattle.wire.specs.Statements.{Statement, doubt}
use Rattle.protocol.specs.declared.state.State.{State}
use Rattle.protocol.specs.Certificates.{size}
use Rattle.protocol.specs.Facts.{Facts}
use Rattle.protocol.specs.Replay.{RequestMachine}
use Rattle.protocol.specs.States.{turned}
use Rattle.protocol.specs.Steps.{Effect, rest, accepted, doubt_step, hear_doubt}
use Rattle.protocol.proofs.Tests.{as_accepted}
use Rattle.protocol.proofs.Parts.{Inv}
use Rattle.protocol.proofs.Grow.{Keeps, inv_adds}

turn_keeps : {machine : RequestMachine} {facts : Facts machine} {s : State} {state : machine.State} → Inv machine facts s state → s.view < last_view
    → Inv machine facts (turned s) state
turn_keeps inv left = search (arith, inv)

module _ (sealed : ℕ → List ℕ → Bool) (fits : ℕ → Bool) (room : ℕ) {machine : RequestMachine} {facts facts' : Facts machine} {s : State} {state : machine.State}
    (inv : Inv machine facts s state) {s' : State} {effect : Effect} {statement : Option Statement} {answer : ℕ} where
  pub doubt_keeps : doubt_step sealed fits room s ≡ accepted s' effect statement answer → Keeps facts facts' s state s' effect statement
  doubt_keeps e =
      let is : (s.view < last_view) × (accepted (turned s) rest (Some (doubt s.view)) (size (doubt s.view)) ≡ accepted s' effect statement answer) =
      grind (arith, nat_tests) in
      as_accepted (Keeps facts facts' s state) is.1
      (record {
        in_range = grind (arith, nat_tests, inv.shape);
        keeps = λ adds. inv_adds adds (λ st e. (s.view, cc)) (turn_keeps inv is.0);
      })

  pub hear_doubt_keeps : hear_doubt sealed fits room s ≡ accepted s' effect statement answer → Keeps facts facts' s state s' effect statement
  hear_doubt_keeps e =
      let is : (s.view < last_view) × (accepted (turned s) rest None 0 ≡ accepted s' effect statement answer) = grind (arith, nat_tests) in
      as_accepted (Keeps facts facts' s state) is.1 (record { in_range = tt; keeps = λ adds. inv_adds adds (λ st e. cc) (turn_keeps inv is.0) })
