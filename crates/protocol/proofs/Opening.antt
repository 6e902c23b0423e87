-- Opening keeps what an honest replica keeps: what is selected gives each vote of the opened view its reasons.
use Rattle.std.proofs.Common.{◌≡◌, ℕ, suc, ◌<◌, Bool, not, ◌||◌, T, List, get_or, is_some, Some, None, Option, sym, refl, ◌∙◌, arith}
use Rattle.std.specs.List.{slice_get}
use Rattle.std.proofs.lemmas.List.{length-replicate}
use Rattle.std.proofs.lemmas.Option.{slice_get_within, get_or_from_slice_get}
use Rattle.wire.specs.declared.entry.LogEntry.{LogEntry}
use Rattle.wire.specs.declared.request.Request.{Request}
use Rattle.wire.specs.Kinds.{last_number}
use Rattle.wire.specs.Statements.{Statement}
use Rattle.groups.specs.Groups.{group}
use Rattle.protocol.specs.declared.state.Phase.{Phase}
use Rattle.protocol.specs.declared.state.Phase.TheVariants.{Closed}
use Rattle.protocol.specs.declared.state.State.{State}
use Rattle.protocol.specs.Facts.{Facts}
use Rattle.protocol.specs.Replay.{RequestMachine}
use Rattle.protocol.specs.Rules.{Backed, Heeded, Chosen, nothing}
use Rattle.protocol.specs.Selecting.{peers, holds, holds_all, named, mask_names, selects, choices}
use Rattle.protocol.specs.States.{blank, blank_entry, closed, held, noted, with_selection}
use Rattle.protocol.specs.Steps.{Effect, renew, accepted, all_noted, open_step}
use Rattle.protocol.proofs.Choosing.{counted, counts_held, picks, selects_past, choices_at}
use Rattle.protocol.proofs.Grow.{Keeps, inv_adds}
use Rattle.protocol.proofs.Parts.{Inv}
use Rattle.protocol.proofs.Tests.{every_at, all_at, any_in, as_accepted}

-- what an option has
the_some : {A : Type 0} (o : Option A) → T (is_some o) → (a : A) × (o ≡ Some a)
the_some None t = absurd t
the_some (Some a) t = (a, refl)

-- the phase in which a replica opens
pub is_closed : (phase : Phase) → T (closed phase) → phase ≡ Closed
is_closed phase t = grind arith

module _ (machine : RequestMachine) (facts : Facts machine) (s : State) (state : machine.State) (inv : Inv machine facts s state)
    (shut : T (closed s.phase)) (noting : T (all_noted s)) (holding : T (holds_all s (named s))) (opened : facts.Opened s.number s.view) where
  -- what is selected for the entry of a named report is certified in no lower view
  backed : (x k : ℕ) (es : List LogEntry) (e : LogEntry) (r : Request) → (k < selects s → r ≡ get_or (choices s) k blank)
      → x < peers s → T (named s x) → held s x ≡ Some es → slice_get es k ≡ Some e → Backed s.config machine facts e.view s.view (suc k) r
  backed x k es e r select l t has at =
      let counting = counts_held s x t ∙ has in
      let pick = picks s x k es e l counting at in
      let given = (counted s pick.who pick.entries pick.counting).1 in
      let within = slice_get_within pick.entries k pick.entry pick.there in
      let is = get_or_from_slice_get pick.entries k pick.entry blank_entry pick.there in
      let small : k < last_number = omega (arith, inv.holds.short pick.who pick.entries given) in
      let for_r : pick.entry.request ≡ r = pick.requested ∙ sym (choices_at s k small) ∙ sym (select (selects_past s x k es e l counting at)) in
      let (early, sound) = rw is at (inv.holds.certified pick.who pick.entries given k within) in
      (pick.entry.view, pick.no_lower, early, rw for_r at sound)

  -- each report that its closing names is heeded
  heeded : (k : ℕ) (r : Request) → (k < selects s → r ≡ get_or (choices s) k blank) → (x : ℕ) → x < peers s → T (named s x)
      → Heeded s.config machine facts s.view (suc k) r x
  heeded k r select x l t =
      let there = the_some (held s x) (grind (arith, all_at (peers s) (λ x. not (named s x) || holds s x) holding x l)) in
      record { entries = there.0; reported = inv.holds.reported x there.0 there.1; highest = λ e. backed x k there.0 e r select l t there.1 }

  chooses : (k : ℕ) (r : Request) → (k < selects s → r ≡ get_or (choices s) k blank) → Chosen s.config machine facts s.number s.view (suc k) r
  chooses k r select =
      let grouped = inv.shape.grouped (rw (is_closed s.phase shut) tt) in
      let mine = the_some (noted s s.number) (every_at (group s.config s.view) (λ g. is_some (noted s g)) noting s.number grouped) in
      record {
        opened = opened;
        mask = mine.0;
        closed = inv.holds.noted_closing s.number mine.0 mine.1;
        heeds = λ x l t.
            heeded k r select x l
            (any_in (peers s) (λ g. mask_names (noted s g) x) s.number inv.shape.inside (rw mine.1 t));
      }

  opening_keeps : Inv machine facts (with_selection s (selects s) (choices s)) machine.fresh
  opening_keeps =
      let is = is_closed s.phase shut in
      record {
        shape = search (arith, length-replicate {A = ℕ} last_number 0, inv.shape);
        votes = search (arith, inv.votes);
        prepares = search arith;
        executes = record { so_far = λ t. nothing };
        replies = inv.replies;
        logs = search (arith, inv.logs);
        reports = inv.reports;
        closings = search (arith, inv.closings);
        holds = inv.holds;
        opens = record { chosen = λ _ above. chooses };
      }

-- an accepted open keeps all
pub open_keeps : (sealed : ℕ → List ℕ → Bool) (fits : ℕ → Bool) (room : ℕ) {machine : RequestMachine} {facts facts' : Facts machine} {s : State} {state : machine.State}
    → Inv machine facts s state → {s' : State} {effect : Effect} {statement : Option Statement} {answer : ℕ} → facts'.Opened s.number s.view
    → open_step sealed fits room s ≡ accepted s' effect statement answer → Keeps facts facts' s state s' effect statement
open_keeps sealed fits room {machine} {facts} {facts'} {s} {state} inv {s'} {effect} {statement} {answer} opened e =
    let is : T (closed s.phase) × T (all_noted s) × T (holds_all s (named s))
    × (accepted (with_selection s (selects s) (choices s)) renew None (selects s) ≡ accepted s' effect statement answer) = grind arith in
    as_accepted (Keeps facts facts' s state) is.3
    (record { in_range = tt; keeps = λ adds. opening_keeps machine facts' s state (inv_adds adds (λ st e. cc) inv) is.0 is.1 is.2 opened })
