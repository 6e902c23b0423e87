-- Closing, and noting a closing that is heard, keep what an honest replica keeps: a closing names reports that are held.
use Rattle.std.proofs.Common.{◌≡◌, ℕ, ◌+◌, ◌<◌, ◌≤◌, Bool, T, List, set, Some, Option, get_or, None, arith, length-set}
use Rattle.wire.specs.Configs.{faults, replicas}
use Rattle.wire.specs.Counting.{count}
use Rattle.wire.specs.Statements.{Statement, closing}
use Rattle.protocol.specs.declared.state.Phase.TheVariants.{Closed}
use Rattle.protocol.specs.declared.state.State.{State}
use Rattle.protocol.specs.Certificates.{size}
use Rattle.protocol.specs.Facts.{Facts}
use Rattle.protocol.specs.Receipts.{Made}
use Rattle.protocol.specs.Replay.{RequestMachine}
use Rattle.protocol.specs.Selecting.{peers, holds, held_mask}
use Rattle.protocol.specs.States.{gathering, held, with_closing}
use Rattle.protocol.specs.Steps.{Effect, rest, accepted, close_step, hear_closing}
use Rattle.protocol.proofs.Tests.{as_accepted}
use Rattle.protocol.proofs.Masks.{mask_small, mask_count}
use Rattle.protocol.proofs.Parts.{Shape, Holds, Inv}
use Rattle.protocol.proofs.Grow.{is_report, is_reply, Adds, Keeps, silent, reports_grow, inv_adds, chosen_grows, replied_grows, certified_grows}
use Rattle.std.proofs.lemmas.Bool.Decides.{nat_tests}
use Rattle.std.proofs.lemmas.Grind.{elements}

closing_keeps : {machine : RequestMachine} {facts facts' : Facts machine} {s : State} {state : machine.State} → Inv machine facts s state → T (gathering s.phase) → faults s.config + 1 ≤ count (peers s) (holds s) → Adds facts facts' s.number (Some (closing s.view (held_mask s)))
    → facts'.Closed s.number s.view (holds s) → Inv machine facts' (with_closing s Closed s.number (held_mask s)) state
closing_keeps {s = s} inv gathers enough adds here =
    record {
      shape = search (arith, length-set {A = Option ℕ}, inv.shape);
      votes = search (arith, adds.only, inv.votes, chosen_grows s.config adds.grows);
      prepares = search arith;
      executes = search arith;
      replies = search (arith, adds.only, inv.replies, replied_grows s.config adds.grows);
      logs = search (arith, inv.logs, certified_grows s.config adds.grows);
      reports = reports_grow s.config adds.grows (silent adds is_reply (λ t. t)) (silent adds is_report (λ t. t)) inv.reports;
      closings = grind (arith, inv.closings, adds.only, adds.new);
      holds = grind (arith, elements, inv.holds, adds, certified_grows s.config adds.grows);
      opens = search arith;
    }

note_keeps : {machine : RequestMachine} {facts : Facts machine} {s : State} {state : machine.State} → Inv machine facts s state → (g mask : ℕ) → g < replicas s.config → facts.Known g (closing s.view mask) → Inv machine facts (with_closing s s.phase g mask) state
note_keeps {machine} {facts} {s} inv g mask inside known =
    let shape : Shape (with_closing s s.phase g mask) = search (arith, length-set {A = Option ℕ}, inv.shape) in
    let holds : Holds s.config machine facts s.number s.view (held s) (λ x. get_or (set s.closings g (Some mask)) x None) = grind (arith, elements, inv.holds) in
    assumption

module _ (sealed : ℕ → List ℕ → Bool) (fits : ℕ → Bool) (room : ℕ) {machine : RequestMachine} {facts facts' : Facts machine} {s : State} {state : machine.State}
    (inv : Inv machine facts s state) {s' : State} {effect : Effect} {statement : Option Statement} {answer : ℕ} where
  pub close_keeps : facts'.Closed s.number s.view (holds s) → close_step sealed fits room s ≡ accepted s' effect statement answer
      → Keeps facts facts' s state s' effect statement
  close_keeps here e =
      let says = closing s.view (held_mask s) in
      let is : T (gathering s.phase) × (faults s.config + 1 ≤ count (peers s) (holds s))
      × (accepted (with_closing s Closed s.number (held_mask s)) rest (Some says) (size says) ≡ accepted s' effect statement answer) = grind (arith, nat_tests) in
      as_accepted (Keeps facts facts' s state) is.2
      (record {
        in_range = grind (arith, nat_tests, mask_small (peers s) (holds s), mask_count (peers s) (holds s), inv.shape);
        keeps = λ adds. closing_keeps inv is.0 is.1 adds here;
      })

  pub hear_closing_keeps : (knows : (x : ℕ) (st : Statement) → Made s.config sealed x st → facts.Known x st)
      → (g view mask : ℕ) → view ≡ s.view → Made s.config sealed g (closing view mask)
      → hear_closing sealed fits room s g mask ≡ accepted s' effect statement answer → Keeps facts facts' s state s' effect statement
  hear_closing_keeps knows g view mask same made e =
      let is : accepted (with_closing s s.phase g mask) rest None 0 ≡ accepted s' effect statement answer = grind arith in
      as_accepted (Keeps facts facts' s state) is
      (record { in_range = tt; keeps = λ adds. inv_adds adds (λ st e. cc) (note_keeps inv g mask (grind (arith, nat_tests, made.0)) (rw same at (knows g _ made))) })
