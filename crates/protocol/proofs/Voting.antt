-- Voting for a number (ordering, repeating, hearing a PREPARE) and hearing a COMMIT keep what an honest replica keeps.
use Rattle.std.proofs.Common.{◌≡◌, ℕ, suc, ◌+◌, ◌-◌, ◌^◌, ◌<◌, ◌≤◌, Bool, T, ◌⊎◌, List, set, Some, None, Option, refl, inl, inr, add-one, arith, eqb→eq, length-set}
use native.Mathlib.Nat.{zero-div}
use lib.Bits.{bit_or}
use Rattle.std.proofs.lemmas.Bool.Decides.{nat_tests}
use Rattle.std.proofs.lemmas.Grind.{elements}
use Rattle.wire.specs.declared.request.Request.{Request}
use Rattle.wire.specs.Configs.{replicas}
use Rattle.wire.specs.Counting.{names}
use Rattle.wire.specs.Kinds.{last_number}
use Rattle.wire.specs.Statements.{Statement, prepare, commit}
use Rattle.groups.specs.Groups.{primary}
use Rattle.protocol.specs.declared.state.State.{State}
use Rattle.protocol.specs.Certificates.{size}
use Rattle.protocol.specs.Facts.{Facts}
use Rattle.protocol.specs.Receipts.{Made}
use Rattle.protocol.specs.Replay.{RequestMachine}
use Rattle.protocol.specs.Rules.{Chosen}
use Rattle.protocol.specs.States.{working, leads, prepared_at, selected_at, commits_at, with_prepared, with_commits}
use Rattle.protocol.specs.Steps.{Effect, rest, accepted, allows, entitles, order_step, repeat_step, hear_prepare, hear_commit}
use Rattle.protocol.specs.Votes.{vote}
use Rattle.protocol.proofs.Grow.{is_report, is_reply, Adds, Keeps, silent, chosen_grows, reports_grow, inv_adds, replied_grows, certified_grows, closed_before_grows, executed_grows}
use Rattle.protocol.proofs.Masks.{names_more}
use Rattle.protocol.proofs.Parts.{Shape, Votes, Prepares, Inv}
use Rattle.protocol.proofs.Tests.{as_accepted, same_equal}

-- the empty mask names none, and that of one bit one
names_nothing : (g : ℕ) → T (names 0 g) → ⊥
names_nothing g t = rw (zero-div (2 ^ g)) at t

names_one : (g x : ℕ) → T (names (2 ^ g) x) → g ≡ x
names_one g x t = grind (arith, nat_tests, names_more 0 g x, names_nothing x)

-- ---- the next number is prepared and voted for

module _ {machine : RequestMachine} {facts facts' : Facts machine} (s : State) (state : machine.State) (inv : Inv machine facts s state)
    (works : T (working s.phase)) (below : s.prepared < last_number) (r : Request) (commits : ℕ)
    (selected : s.prepared < s.selected → r ≡ selected_at s s.prepared)
    (adds : Adds facts facts' s.number (Some (vote s.config s.view s.number (suc s.prepared) r)))
    (led : facts'.Known (primary s.config s.view) (prepare s.view (suc s.prepared) r))
    (heard : (g : ℕ) → g < replicas s.config → T (names commits g) → facts'.Known g (commit s.view (suc s.prepared) r)) where
  abbrev requests : List Request
  requests = set s.requests s.prepared r

  -- a vote that is known now was known, or is this one
  abbrev Which : (v n : ℕ) → Request → Type 0
  Which v n r' = facts.Known s.number (vote s.config v s.number n r') ⊎ ((v ≡ s.view) × (n ≡ suc s.prepared) × (r' ≡ r))

  which : (v n : ℕ) (r' : Request) → facts'.Known s.number (vote s.config v s.number n r') → Which v n r'
  which v n r' k = grind (arith, adds.only _ k)

  votes : Votes s.config machine facts' s.number s.view s.phase (s.prepared + 1) requests
  votes =
      record {
        none_later = λ v n r' k. grind (arith, which v n r' k, inv.votes.none_later v n r');
        in_view = λ n r' k. (works, grind (arith, elements, which s.view n r' k, inv.votes.in_view n r', inv.shape.long_requests));
        one_vote = λ v n r₁ r₂ k₁ k₂. grind (arith, which v n r₁ k₁, which v n r₂ k₂, inv.votes.one_vote v n r₁ r₂, inv.votes.in_view n r₁, inv.votes.in_view n r₂);
        chosen = λ v n r' above k. chosen v n r' above (which v n r' k);
      }
    where
      chosen : (v n : ℕ) (r' : Request) → 0 < v → Which v n r' → Chosen s.config machine facts' s.number v n r'
      chosen v n r' above (inl old) = chosen_grows s.config adds.grows (inv.votes.chosen v n r' above old)
      chosen v n r' above (inr new) =
          rw (new.0, new.1, new.2) (chosen_grows s.config adds.grows (inv.opens.chosen works (omega (arith, new.0)) s.prepared r selected))

  prepares : Prepares s.config machine facts' s.number s.view s.phase (s.prepared + 1) requests (set s.commits_heard s.prepared commits)
  prepares =
      record {
        led = λ w k l. grind (arith, elements, led, adds.grows.known, inv.prepares.led w k, inv.shape.long_requests);
        heard = λ w k g l inside t. grind (arith, elements, heard g inside, adds.grows.known, inv.prepares.heard w k g, inv.shape.long_requests, inv.shape.long_commits);
      }

  voting : Inv machine facts' (with_prepared s r commits) state
  voting =
      record {
        shape = search (arith, length-set {A = ℕ}, length-set {A = Request}, inv.shape);
        votes = votes;
        prepares = prepares;
        executes = search (arith, inv.executes, executed_grows s.config adds.grows);
        replies = search (arith, adds.only, inv.replies, replied_grows s.config adds.grows);
        logs = search (arith, inv.logs, certified_grows s.config adds.grows);
        reports = reports_grow s.config adds.grows (silent adds is_reply (λ t. grind arith)) (silent adds is_report (λ t. grind arith)) inv.reports;
        closings = search (arith, adds.only, inv.closings, closed_before_grows s.config adds.grows);
        holds = search (arith, adds.grows.known, inv.holds, certified_grows s.config adds.grows);
        opens = search (arith, inv.opens.chosen, chosen_grows s.config adds.grows);
      }

-- ---- one more commit is heard for a number that is prepared

hearing : {machine : RequestMachine} {facts : Facts machine} (s : State) (state : machine.State) → Inv machine facts s state → (k commits : ℕ) → k < s.prepared
    → ((g : ℕ) → T (names commits g) → T (names (commits_at s k) g) ⊎ facts.Known g (commit s.view (suc k) (prepared_at s k)))
    → Inv machine facts (with_commits s k commits) state
hearing {machine} {facts} s state inv k commits below heard =
    let shape : Shape (with_commits s k commits) = search (arith, length-set {A = ℕ}, inv.shape) in
    let prepares : Prepares s.config machine facts s.number s.view s.phase s.prepared s.requests (set s.commits_heard k commits) =
    record { led = inv.prepares.led; heard = λ w i g l inside t. grind (arith, elements, heard g, inv.prepares.heard w i g l inside, inv.shape.long_commits) } in
    assumption

-- ---- accepted calls

module _ (sealed : ℕ → List ℕ → Bool) (fits : ℕ → Bool) (room : ℕ) {machine : RequestMachine} {facts facts' : Facts machine} {s : State} {state : machine.State}
    (inv : Inv machine facts s state) where
  -- a statement that is its vote for the next number
  vote_keeps : (works : T (working s.phase)) (below : s.prepared < last_number) (r : Request) (commits : ℕ)
      → (s.prepared < s.selected → r ≡ selected_at s s.prepared)
      → (st : Statement) → st ≡ vote s.config s.view s.number (suc s.prepared) r
      → (Adds facts facts' s.number (Some st) → facts'.Known (primary s.config s.view) (prepare s.view (suc s.prepared) r))
      → (Adds facts facts' s.number (Some st) → (g : ℕ) → g < replicas s.config → T (names commits g) → facts'.Known g (commit s.view (suc s.prepared) r))
      → Keeps facts facts' s state (with_prepared s r commits) rest (Some st)
  vote_keeps works below r commits selected st is led heard =
      record {
        in_range = grind (arith, nat_tests, inv.shape);
        keeps = λ adds. voting s state inv works below r commits selected (rw is at adds) (led adds) (heard adds);
      }

  -- the primary's vote is its PREPARE
  lead_keeps : T (working s.phase) → T (leads s) → s.prepared < last_number → (r : Request) → (s.prepared < s.selected → r ≡ selected_at s s.prepared)
      → Keeps facts facts' s state (with_prepared s r 0) rest (Some (prepare s.view (s.prepared + 1) r))
  lead_keeps works leading below r selected =
      vote_keeps works below r 0 selected (prepare s.view (s.prepared + 1) r) (grind arith)
      (λ adds. rw (← eqb→eq s.number (primary s.config s.view) leading, ← add-one s.prepared) (adds.new _ refl))
      (λ adds g inside t. absurd (names_nothing g t))

  module _ {s' : State} {effect : Effect} {statement : Option Statement} {answer : ℕ} where
    pub order_keeps : (r : Request) → order_step sealed fits room s r ≡ accepted s' effect statement answer → Keeps facts facts' s state s' effect statement
    order_keeps r e =
        let is : T (working s.phase) × T (leads s) × (s.selected ≤ s.prepared) × (s.prepared < last_number)
        × (accepted (with_prepared s r 0) rest (Some (prepare s.view (s.prepared + 1) r)) (s.prepared + 1) ≡ accepted s' effect statement answer) =
        grind (arith, nat_tests) in
        as_accepted (Keeps facts facts' s state) is.4 (lead_keeps is.0 is.1 is.3 r (λ l. absurd (omega arith)))

    pub repeat_keeps : repeat_step sealed fits room s ≡ accepted s' effect statement answer → Keeps facts facts' s state s' effect statement
    repeat_keeps e =
        let r = selected_at s s.prepared in
        let is : T (working s.phase) × T (leads s) × (s.prepared < last_number)
        × (accepted (with_prepared s r 0) rest (Some (prepare s.view (s.prepared + 1) r)) (s.prepared + 1) ≡ accepted s' effect statement answer) =
        grind (arith, nat_tests) in
        as_accepted (Keeps facts facts' s state) is.3 (lead_keeps is.0 is.1 is.2 r (λ l. refl))

    pub hear_prepare_keeps : (knows : (x : ℕ) (st : Statement) → Made s.config sealed x st → facts.Known x st) (g view number : ℕ) (r : Request) → view ≡ s.view
        → Made s.config sealed g (prepare view number r) → T (allows s (prepare view number r)) → T (entitles s g (prepare view number r))
        → hear_prepare sealed fits room s number r ≡ accepted s' effect statement answer → Keeps facts facts' s state s' effect statement
    hear_prepare_keeps knows g view number r same_view made allowed entitled e =
        let says = commit s.view number r in
        let is : (number ≡ suc s.prepared) × (s.prepared < s.selected → r ≡ selected_at s s.prepared)
        × (accepted (with_prepared s r (2 ^ s.number)) rest (Some says) (size says) ≡ accepted s' effect statement answer) =
        grind (arith, nat_tests, same_equal r (selected_at s s.prepared)) in
        let numbered = is.0 in
        let in_range : number ≤ last_number = grind (arith, nat_tests, made.0) in
        let from = eqb→eq g (primary s.config s.view) entitled in
        as_accepted (Keeps facts facts' s state) is.2
        (vote_keeps (grind arith) (omega arith) r (2 ^ s.number) is.1 says (grind arith)
        (λ adds. rw (← from, ← same_view, ← numbered) (adds.grows.known g _ (knows g _ made)))
        (λ adds x inside t. rw (← names_one s.number x t, ← numbered) (adds.new _ refl)))

    pub hear_commit_keeps : (knows : (x : ℕ) (st : Statement) → Made s.config sealed x st → facts.Known x st) (g view number : ℕ) (r : Request) → view ≡ s.view
        → Made s.config sealed g (commit view number r) → T (allows s (commit view number r)) → T (entitles s g (commit view number r))
        → hear_commit sealed fits room s g number r ≡ accepted s' effect statement answer → Keeps facts facts' s state s' effect statement
    hear_commit_keeps knows g view number r same_view made allowed entitled e =
        let commits = bit_or (commits_at s (number - 1)) (2 ^ g) in
        let is : (number ≤ s.prepared) × (r ≡ prepared_at s (number - 1))
        × (accepted (with_commits s (number - 1) commits) rest None 0 ≡ accepted s' effect statement answer) =
        grind (arith, nat_tests, same_equal r (prepared_at s (number - 1))) in
        let numbered : number ≡ suc (number - 1) = grind (arith, nat_tests, made.0) in
        let told = knows g _ made in
        as_accepted (Keeps facts facts' s state) is.2
        (record {
          in_range = tt;
          keeps = λ adds.
              hearing s state (inv_adds adds (λ st e. cc) inv) (number - 1) commits (omega arith)
              (λ x t. grind (arith, nat_tests, names_more (commits_at s (number - 1)) g x, adds.grows.known g _ told));
        })
