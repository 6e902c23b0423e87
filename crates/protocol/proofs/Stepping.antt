-- Every accepted call of an honest replica keeps what it keeps, and leaves behind what it has to; no call alters a replica's number or config.
use Rattle.std.proofs.Common.{◌≡◌, ℕ, ◌^◌, ◌<◌, Bool, T, List, Some, Ok, Err, Option, Result, refl, arith, eqb→eq}
use Rattle.wire.specs.declared.fault.ReadFault.{ReadFault}
use Rattle.wire.specs.declared.request.Request.{Request}
use Rattle.wire.specs.Bytes.{Bytes}
use Rattle.wire.specs.Reading.{reading}
use Rattle.wire.specs.Statements.{Statement, Said, prepare, commit, doubt, report, closing, reply, view_of}
use Rattle.seals.specs.declared.fault.RegisterFault.TheVariants.{Unknown}
use Rattle.protocol.specs.declared.fault.ReplicaFault.TheVariants.{Register, WrongView, NotAllowed, NotEntitled}
use Rattle.protocol.specs.declared.state.State.{State}
use Rattle.protocol.specs.Facts.{Facts}
use Rattle.protocol.specs.Receipts.{Made}
use Rattle.protocol.specs.Replay.{RequestMachine}
use Rattle.protocol.specs.Runs.{HeardBytes}
use Rattle.protocol.specs.Selecting.{peers, holds, held_mask}
use Rattle.protocol.specs.Steps.{Effect, Verdict, accepted, need, same, allows, entitles, hear_kind, hear_read, close_step, open_step, Act, orders, repeats, hears, carries_out, doubts, reports, closes, opens, step}
use Rattle.protocol.specs.Verdicts.{state_after}
use Rattle.protocol.proofs.Grow.{Adds, Keeps, closed_before_grows}
use Rattle.protocol.proofs.History.{Leaves}
use Rattle.protocol.proofs.Known.{made_heard}
use Rattle.protocol.proofs.Masks.{mask_names_passing}
use Rattle.protocol.proofs.Parts.{Inv}
use Rattle.protocol.proofs.Voting.{order_keeps, repeat_keeps, hear_prepare_keeps, hear_commit_keeps}
use Rattle.protocol.proofs.Executing.{carry_out_keeps}
use Rattle.protocol.proofs.Turning.{doubt_keeps, hear_doubt_keeps}
use Rattle.protocol.proofs.Reporting.{report_keeps, hear_report_keeps}
use Rattle.protocol.proofs.Closing.{close_keeps, hear_closing_keeps}
use Rattle.protocol.proofs.Opening.{open_keeps}

-- ---- number and config

-- a verdict leaves them as they are
abbrev pub SamePlace : State → Verdict → Type 0
SamePlace s verdict = ((state_after s verdict).number ≡ s.number) × ((state_after s verdict).config ≡ s.config)

module _ (s : State) (sealed : ℕ → List ℕ → Bool) (fits : ℕ → Bool) (room : ℕ) where
  kind_same : (g : ℕ) (st : Statement) → SamePlace s (hear_kind sealed fits room s g st)
  kind_same g st = grind arith

  read_same : (bytes : List ℕ) (read : Result Said ReadFault) → SamePlace s (hear_read sealed fits room s bytes read)
  read_same bytes (Err fault) = (refl, refl)
  read_same bytes (Ok said) = grind (arith, kind_same said.replica said.statement)

  pub step_same : (outcome : Request → ℕ) (act : Act) → SamePlace s (step sealed fits room outcome s act)
  step_same outcome (hears bytes) = read_same bytes (reading s.config bytes)
  step_same outcome act = grind arith

-- ---- what a call leaves behind

module _ (sealed : ℕ → List ℕ → Bool) (fits : ℕ → Bool) (room : ℕ) {machine : RequestMachine} {facts facts' : Facts machine} {s : State} {state : machine.State}
    (inv : Inv machine facts s state) {s' : State} {effect : Effect} {statement : Option Statement} {answer : ℕ} (adds : Adds facts facts' s.number statement) where
  closes_leaves : close_step sealed fits room s ≡ accepted s' effect statement answer → Leaves s.config machine facts' s.number s closes answer
  closes_leaves e =
      let is : statement ≡ Some (closing s.view (held_mask s)) = grind arith in
      record { mask = held_mask s; closed = adds.new _ is; naming = λ x inside t. rw (mask_names_passing (peers s) (holds s) x inside) t }

  opens_leaves : open_step sealed fits room s ≡ accepted s' effect statement answer → Leaves s.config machine facts' s.number s opens answer
  opens_leaves e above = closed_before_grows s.config adds.grows (inv.closings.closed (grind arith) above)

  pub step_leaves : (outcome : Request → ℕ) (act : Act) → step sealed fits room outcome s act ≡ accepted s' effect statement answer
      → Leaves s.config machine facts' s.number s act answer
  step_leaves outcome carries_out e = grind (arith, adds.new)
  step_leaves outcome closes e = closes_leaves e
  step_leaves outcome opens e = opens_leaves e
  step_leaves outcome act e = tt

-- ---- what a call keeps

-- what the history then shows of the call
abbrev pub Shows : {machine : RequestMachine} → Facts machine → State → Act → Type 0
Shows facts s closes = facts.Closed s.number s.view (holds s)
Shows facts s opens = facts.Opened s.number s.view
Shows facts s act = Unit {0}

-- the checks of a message that was read
checked : (a b c d : Bool) (verdict : Verdict) {s : State} {effect : Effect} {statement : Option Statement} {answer : ℕ}
    → need a WrongView (need b NotAllowed (need c NotEntitled (need d (Register Unknown) verdict))) ≡ accepted s effect statement answer
    → T a × T b × T c × T d × (verdict ≡ accepted s effect statement answer)
checked a b c d verdict e = grind arith

module _ (sealed : ℕ → List ℕ → Bool) (fits : ℕ → Bool) (room : ℕ) {machine : RequestMachine} {facts facts' : Facts machine} {s : State} {state : machine.State}
    (inv : Inv machine facts s state) (knows : (x : ℕ) (st : Statement) → Made s.config sealed x st → facts.Known x st)
    {s' : State} {effect : Effect} {statement : Option Statement} {answer : ℕ} (word : answer < 2 ^ 64) where
  -- a message heard, by its kind
  kind_keeps : (g : ℕ) (st : Statement) → view_of st ≡ s.view → T (allows s st) → T (entitles s g st) → Made s.config sealed g st
      → hear_kind sealed fits room s g st ≡ accepted s' effect statement answer → Keeps facts facts' s state s' effect statement
  kind_keeps g (prepare view number r) same allowed entitled made e = hear_prepare_keeps sealed fits room inv knows g view number r same made allowed entitled e
  kind_keeps g (commit view number r) same allowed entitled made e = hear_commit_keeps sealed fits room inv knows g view number r same made allowed entitled e
  kind_keeps g (doubt view) same allowed entitled made e = hear_doubt_keeps sealed fits room inv e
  kind_keeps g (report view es) same allowed entitled made e = hear_report_keeps sealed fits room inv knows g view es same made e
  kind_keeps g (closing view mask) same allowed entitled made e = hear_closing_keeps sealed fits room inv knows g view mask same made e
  kind_keeps g (reply view number r outcome) same allowed entitled made e = absurd allowed

  hear_keeps : (bytes : List ℕ) → Bytes bytes → (read : Result Said ReadFault) → reading s.config bytes ≡ read
      → hear_read sealed fits room s bytes read ≡ accepted s' effect statement answer → Keeps facts facts' s state s' effect statement
  hear_keeps bytes small (Err fault) reads e = absurd (grind arith)
  hear_keeps bytes small (Ok said) reads e =
      let is = checked _ _ _ _ _ e in
      kind_keeps said.replica said.statement (eqb→eq _ s.view is.0) is.1 is.2 (made_heard s.config sealed bytes said small reads is.3) is.4

  pub step_keeps : (act : Act) → HeardBytes act → Shows facts' s act → step sealed fits room (λ r. (machine.step state r).1) s act ≡ accepted s' effect statement answer
      → Keeps facts facts' s state s' effect statement
  step_keeps (orders r) heard shows e = order_keeps sealed fits room inv r e
  step_keeps repeats heard shows e = repeat_keeps sealed fits room inv e
  step_keeps (hears bytes) heard shows e = hear_keeps bytes heard (reading s.config bytes) refl e
  step_keeps carries_out heard shows e = carry_out_keeps sealed fits room inv word e
  step_keeps doubts heard shows e = doubt_keeps sealed fits room inv e
  step_keeps reports heard shows e = report_keeps sealed fits room inv e
  step_keeps closes heard shows e = close_keeps sealed fits room inv shows e
  step_keeps opens heard shows e = open_keeps sealed fits room inv shows e
