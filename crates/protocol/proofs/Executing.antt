-- Carrying out keeps what an honest replica keeps: the commits heard and the PREPARE are the certificate of what it executes and enters in its log.
use Rattle.std.proofs.Common.{◌≡◌, ℕ, suc, ◌+◌, ◌^◌, ◌<◌, max, Bool, ◌||◌, T, eqb, ◌⊎◌, List, set, Some, Option, refl, ⊎_elim, add-one, arith, T_not, length-set}
use Rattle.std.proofs.lemmas.Bool.Decides.{nat_tests}
use Rattle.std.proofs.lemmas.Grind.{elements}
use Rattle.wire.specs.declared.entry.LogEntry.{LogEntry}
use Rattle.wire.specs.declared.request.Request.{Request}
use Rattle.wire.specs.Counting.{names}
use Rattle.wire.specs.Statements.{Statement, report, reply}
use Rattle.groups.specs.Groups.{group, primary}
use Rattle.protocol.specs.declared.state.State.{State}
use Rattle.protocol.specs.Facts.{Facts}
use Rattle.protocol.specs.Replay.{RequestMachine}
use Rattle.protocol.specs.Rules.{Certified, one_more, Replied}
use Rattle.protocol.specs.States.{working, commits_at, next_request, with_executed}
use Rattle.protocol.specs.Steps.{Effect, execute, accepted, all_heard, carry_out_step}
use Rattle.protocol.specs.Votes.{vote}
use Rattle.protocol.proofs.Grow.{Adds, Keeps, certified_grows, executed_grows, replied_grows, chosen_grows, closed_before_grows}
use Rattle.protocol.proofs.Parts.{Executes, Replies, Logs, Reports, Inv}
use Rattle.protocol.proofs.Tests.{as_accepted, every_at}

module _ {machine : RequestMachine} {facts : Facts machine} (s : State) (state : machine.State) (inv : Inv machine facts s state)
    (works : T (working s.phase)) (below : s.executed < s.prepared) (heard : T (all_heard s s.executed)) where
  -- the certificate of the next number
  next_certified : Certified s.config machine facts s.view (suc s.executed) (next_request s)
  next_certified g inside grouped =
      let voted =
      every_at (group s.config s.view) (λ g. eqb g (primary s.config s.view) || names (commits_at s s.executed) g) heard g grouped in
      grind (arith, nat_tests, inv.prepares.led works s.executed below, inv.prepares.heard works s.executed g below inside)

  module _ {facts' : Facts machine}
      (adds : Adds facts facts' s.number (Some (reply s.view (suc s.executed) (next_request s) (machine.step state (next_request s)).1))) where
    certified : Certified s.config machine facts' s.view (suc s.executed) (next_request s)
    certified = certified_grows s.config adds.grows s.view (suc s.executed) (next_request s) next_certified

    executes : Executes s.config machine facts' s.number s.view s.phase (s.executed + 1) (machine.step state (next_request s)).0
    executes =
        record {
          so_far = λ w.
              rw (add-one s.executed)
              (one_more (next_request s) (executed_grows s.config adds.grows (inv.executes.so_far w)) certified (adds.new _ refl));
        }

    -- a reply that is known now was known, or is this one
    which : (v n : ℕ) (r : Request) (outcome : ℕ) → facts'.Known s.number (reply v n r outcome)
        → facts.Known s.number (reply v n r outcome)
        ⊎ ((v ≡ s.view) × (n ≡ suc s.executed) × (r ≡ next_request s) × (outcome ≡ (machine.step state (next_request s)).1))
    which v n r outcome known = grind (arith, adds.only _ known)

    -- ---- the log

    abbrev entry : LogEntry
    entry = record { view = s.view; request = next_request s }

    logs : Logs s.config machine facts' s.number s.view s.phase (max s.logged (s.executed + 1)) (set s.log s.executed entry)
    logs =
        let old : Logs s.config machine facts' s.number s.view s.phase s.logged s.log = search (arith, inv.logs, certified_grows s.config adds.grows) in
        record {
          certified = λ k l h inside grouped. grind (arith, elements, certified h inside, old.certified k, inv.shape);
          none_later = λ k l. grind (arith, elements, inv.logs.none_later k, inv.shape);
          earlier = λ idle. absurd (T_not (working s.phase) idle works);
        }

    replies : Replies s.config machine facts' s.number s.view (max s.logged (s.executed + 1)) (set s.log s.executed entry)
    replies =
        record {
          none_later = λ v n r outcome known. grind (arith, inv.replies.none_later v n r outcome, which v n r outcome known);
          replied = λ v n r outcome known.
              ⊎_elim (λ old. replied_grows s.config adds.grows (inv.replies.replied v n r outcome old)) (replied v n r outcome) (which v n r outcome known);
          entered = λ v k r outcome known. grind (arith, elements, which v (suc k) r outcome known, inv.replies.entered v k r outcome, inv.replies.none_later v (suc k) r outcome, inv.shape);
        }
      where
        replied : (v n : ℕ) (r : Request) (outcome : ℕ)
            → (v ≡ s.view) × (n ≡ suc s.executed) × (r ≡ next_request s) × (outcome ≡ (machine.step state (next_request s)).1)
            → Replied s.config machine facts' s.number v n r outcome
        replied v n r outcome new =
            let executed = executed_grows s.config adds.grows (inv.executes.so_far works) in
            rw (new.0, new.1, new.2, new.3)
            (record { before = s.executed; numbered = refl; state = state; executed = executed; certified = certified; gives = refl })

    reports : Reports s.config machine facts' s.number s.view
    reports =
        record {
          none_later = λ w es k. inv.reports.none_later w es (grind (arith, adds.only _ k));
          kept = λ v n r outcome w es later known reported.
              let old : facts.Known s.number (report w es) = grind (arith, adds.only _ reported) in
              ⊎_elim (λ known. inv.reports.kept v n r outcome w es later known old) (λ new. absurd (grind (arith, inv.reports.none_later w es old))) (which v n r outcome known);
        }

    executing : Inv machine facts' (with_executed s) (machine.step state (next_request s)).0
    executing =
        let old : (v n : ℕ) (r : Request) → facts'.Known s.number (vote s.config v s.number n r) → facts.Known s.number (vote s.config v s.number n r) =
        λ v n r k. grind (arith, adds.only _ k) in
        record {
          shape = search (arith, length-set {A = LogEntry}, inv.shape);
          votes = search (arith, old, inv.votes, chosen_grows s.config adds.grows);
          prepares = search (arith, adds.grows.known, inv.prepares);
          executes = executes;
          replies = replies;
          logs = logs;
          reports = reports;
          closings = search (arith, adds.only, inv.closings, closed_before_grows s.config adds.grows);
          holds = search (arith, adds.grows.known, inv.holds, certified_grows s.config adds.grows);
          opens = search (arith, inv.opens.chosen, chosen_grows s.config adds.grows);
        }

-- an accepted carry out keeps all
pub carry_out_keeps : (sealed : ℕ → List ℕ → Bool) (fits : ℕ → Bool) (room : ℕ) {machine : RequestMachine} {facts facts' : Facts machine} {s : State} {state : machine.State}
    → Inv machine facts s state → {s' : State} {effect : Effect} {statement : Option Statement} {answer : ℕ} → answer < 2 ^ 64
    → carry_out_step sealed fits room (λ r. (machine.step state r).1) s ≡ accepted s' effect statement answer → Keeps facts facts' s state s' effect statement
carry_out_keeps sealed fits room {machine} {facts} {facts'} {s} {state} inv {s'} {effect} {statement} {answer} word e =
    let outcome = (machine.step state (next_request s)).1 in
    let says = reply s.view (s.executed + 1) (next_request s) outcome in
    let is : T (working s.phase) × (s.executed < s.prepared) × T (all_heard s s.executed) × (outcome ≡ answer)
    × (accepted (with_executed s) (execute (next_request s)) (Some says) outcome ≡ accepted s' effect statement answer) = grind (arith, nat_tests) in
    as_accepted (Keeps facts facts' s state) is.4
    (record {
      in_range = grind (arith, nat_tests, inv.shape);
      keeps = λ adds. executing s state inv is.0 is.1 is.2 (rw (add-one s.executed) at adds);
    })
