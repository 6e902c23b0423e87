-- What holds of a cluster and the history that led to it, and what one event more owes.
use Rattle.std.proofs.Common.{◌≡◌, ℕ, Bool, not, T, List, [], ◌∷◌, ◌++◌, length, set, Some, Ok, Err, Option, Result, sym, refl, ap, ◌∙◌, subst, ⊎_elim, arith, length-set}
use Rattle.std.specs.List.{slice_get}
use Rattle.std.proofs.lemmas.Bool.{cases_eq}
use Rattle.std.proofs.lemmas.Option.{same_Some}
use Rattle.wire.specs.declared.config.ClusterConfig.{ClusterConfig}
use Rattle.wire.specs.Configs.{replicas}
use Rattle.wire.specs.Statements.{Statement}
use Rattle.protocol.specs.declared.fault.ReplicaFault.{ReplicaFault}
use Rattle.protocol.specs.declared.state.State.{State}
use Rattle.protocol.specs.Agreement.{facts_of}
use Rattle.protocol.specs.Facts.{Facts}
use Rattle.protocol.specs.Receipts.{Made}
use Rattle.protocol.specs.Replay.{RequestMachine}
use Rattle.protocol.specs.Runs.{Node, Cluster, call, Deed, Word, HeardBytes}
use Rattle.protocol.specs.Steps.{Act, closes, opens, Effect, Verdict, refused, accepted, step}
use Rattle.protocol.specs.Verdicts.{answer_of, state_after, used, machine_after, sealed_after}
use Rattle.protocol.proofs.Grow.{Grows, Adds, Keeps, InRange, inv_grows, inv_adds}
use Rattle.protocol.proofs.History.{Past, Leaves, IsCall, accepted_new, history_grows, past_more}
use Rattle.protocol.proofs.Lists.{nth_set, nth_set_other}
use Rattle.protocol.proofs.Parts.{Inv}
use Rattle.protocol.proofs.Stepping.{SamePlace, Shows, step_same, step_leaves, step_keeps}
use Rattle.protocol.proofs.Saying.{statement_of, sealed_said, sealed_is, said_kept, said_by_others, said_new, said_only}

-- what holds of a cluster and the history that led to it
pub record Kept (config : ClusterConfig) (machine : RequestMachine) (byzantine : ℕ → Bool) (ds : List Deed) (c : Cluster machine.State) : Type 0 where
  pub long : length c.nodes ≡ replicas config
  pub placed : (h : ℕ) (node : Node machine.State) → slice_get c.nodes h ≡ Some node → (node.state.number ≡ h) × (node.state.config ≡ config)
  pub keeps : (h : ℕ) (node : Node machine.State) → slice_get c.nodes h ≡ Some node → T (not (byzantine h))
      → Inv machine (facts_of config machine byzantine ds c) node.state node.machine
  pub past : (h : ℕ) → T (not (byzantine h)) → Past config machine (facts_of config machine byzantine ds c) h

-- an event that moves no replica, and is no accepted call
module _ (config : ClusterConfig) (machine : RequestMachine) (byzantine : ℕ → Bool) (ds : List Deed) (c : Cluster machine.State) (kept : Kept config machine byzantine ds c)
    (deed : Deed) (d : Cluster machine.State) (nodes : d.nodes ≡ c.nodes)
    (no_call : (h : ℕ) (act : Act) (s : State) (answer : ℕ) → IsCall deed h act s answer → ⊥)
    (known : (g : ℕ) (st : Statement) → Made config c.sealed g st → Made config d.sealed g st)
    (quiet : (g : ℕ) → T (not (byzantine g)) → (st : Statement) → Made config d.sealed g st → Made config c.sealed g st) where
  pub still_kept : Kept config machine byzantine (ds ++ deed ∷ []) d
  still_kept =
      record {
        long = ap length nodes ∙ kept.long;
        placed = λ h node e. kept.placed h node (there h ∙ e);
        keeps = λ h node e honest.
            let silent = subst (λ (g : ℕ). (st : Statement) → Made config d.sealed g st → Made config c.sealed g st)
            (sym (kept.placed h node (there h ∙ e)).0) (quiet h honest) in
            inv_grows grows {s = node.state} (λ st t. silent st) (kept.keeps h node (there h ∙ e) honest);
        past = λ h honest.
            past_more config machine byzantine ds c deed d grows h (kept.past h honest) (λ act s answer is. absurd (no_call h act s answer is));
      }
    where
      there : (h : ℕ) → slice_get c.nodes h ≡ slice_get d.nodes h
      there h = ap (λ ns. slice_get ns h) (sym nodes)

      grows : Grows (facts_of config machine byzantine ds c) (facts_of config machine byzantine (ds ++ deed ∷ []) d)
      grows = history_grows config machine byzantine ds c deed d known

-- what an accepted call shows
pub shows : (config : ClusterConfig) (machine : RequestMachine) (byzantine : ℕ → Bool) (ds : List Deed) (deed : Deed) (d : Cluster machine.State)
    (s : State) (act : Act) (answer : ℕ) → IsCall deed s.number act s answer → Shows (facts_of config machine byzantine (ds ++ deed ∷ []) d) s act
shows config machine byzantine ds deed d s closes answer is =
    record { state = s; answer = answer; accepted = accepted_new deed ds is; in_view = refl; held = λ x t. t }
shows config machine byzantine ds deed d s opens answer is = record { state = s; answer = answer; accepted = accepted_new deed ds is; in_view = refl }
shows config machine byzantine ds deed d s act answer is = tt

-- a call of the replica at a place
module _ (config : ClusterConfig) (machine : RequestMachine) (byzantine : ℕ → Bool) (ds : List Deed) (c : Cluster machine.State)
    (kept : Kept config machine byzantine ds c) (at room given : ℕ) (act : Act) (node : Node machine.State) (found : slice_get c.nodes at ≡ Some node)
    (answer : Result ℕ ReplicaFault) (d : Cluster machine.State) (word : Word answer) (heard : HeardBytes act)
    (verdict : Verdict) (judges : step c.sealed c.fits room (λ r. (machine.step node.machine r).1) node.state act ≡ verdict) (answers : answer ≡ answer_of verdict)
    (nodes : d.nodes ≡ set c.nodes at (record { state = state_after node.state verdict; machine = machine_after machine node.machine verdict }))
    (sealing : d.sealed ≡ sealed_after c.sealed node.state.number verdict) where
  abbrev deed : Deed
  deed = record { event = call at given act; was = Some node.state; gave = answer }

  abbrev was : Facts machine
  was = facts_of config machine byzantine ds c

  abbrev now : Facts machine
  now = facts_of config machine byzantine (ds ++ deed ∷ []) d

  abbrev number : ℕ
  number = node.state.number

  abbrev after : Node machine.State
  after = record { state = state_after node.state verdict; machine = machine_after machine node.machine verdict }

  named : (number ≡ at) × (node.state.config ≡ config)
  named = kept.placed at node found

  -- what is known after the call
  known : d.sealed ≡ sealed_said c.sealed number (statement_of verdict)
  known = sealing ∙ sealed_is c.sealed number verdict

  grows : Grows was now
  grows = history_grows config machine byzantine ds c deed d (λ g st made. rw known (said_kept config c.sealed number (statement_of verdict) g st made))

  -- of the other replicas no more than before
  quiet : (g : ℕ) → (g ≡ number → ⊥) → (st : Statement) → now.Known g st → was.Known g st
  quiet g apart st made = said_by_others config c.sealed number (statement_of verdict) g st apart (rw known at made)

  -- of the caller also the statement that it made
  adding : InRange config number (statement_of verdict) → Adds was now number (statement_of verdict)
  adding range =
      record {
        grows = grows;
        only = λ st made. said_only config c.sealed number (statement_of verdict) range st (rw known at made);
        new = λ st is. rw known (said_new config c.sealed number (statement_of verdict) range st is);
      }

  -- what an accepted call of an honest caller keeps and leaves behind
  accepted_keeps : T (not (byzantine at)) → (s' : State) (effect : Effect) (statement : Option Statement) (a : ℕ) → verdict ≡ accepted s' effect statement a
      → Inv machine now s' (used machine node.machine effect) × Leaves config machine now at node.state act a
  accepted_keeps honest s' effect statement a is =
      let inv = kept.keeps at node found honest in
      let ok : answer ≡ Ok a = answers ∙ ap answer_of is in
      let is_deed : IsCall deed number act node.state a = (given, rw (named.0, ok)) in
      let knows = λ (x : ℕ) (st : Statement). subst (λ (k : ClusterConfig). Made k c.sealed x st) named.1 in
      let kept_now : Keeps was now node.state node.machine s' effect statement =
      step_keeps c.sealed c.fits room inv knows (subst Word ok word) act heard (shows config machine byzantine ds deed d node.state act a is_deed) (judges ∙ is) in
      let range = subst (λ (k : ClusterConfig). InRange k number statement) named.1 kept_now.in_range in
      let adds : Adds was now number statement = rw is at (adding (rw is range)) in (
        kept_now.keeps adds,
        subst (λ (h : ℕ). Leaves config machine now h node.state act a) named.0
            (subst (λ (k : ClusterConfig). Leaves k machine now number node.state act a) named.1
            (step_leaves c.sealed c.fits room inv adds (λ r. (machine.step node.machine r).1) act (judges ∙ is))),
      )

  caller_keeps : T (not (byzantine at)) → (v : Verdict) → verdict ≡ v
      → Inv machine now (state_after node.state v) (machine_after machine node.machine v)
      × ((a : ℕ) → answer ≡ Ok a → Leaves config machine now at node.state act a)
  caller_keeps honest (refused fault) is =
      let no : answer ≡ Err fault = answers ∙ ap answer_of is in
      (inv_adds (rw is at (adding (rw is tt))) (λ st e. cc) (kept.keeps at node found honest), λ a ok. cc)
  caller_keeps honest (accepted s' effect statement b) is =
      let ok : answer ≡ Ok b = answers ∙ ap answer_of is in
      let keeps = accepted_keeps honest s' effect statement b is in
      (keeps.0, λ a given. let same : b ≡ a = cc in subst (Leaves config machine now at node.state act) same keeps.1)

  -- the replicas after the call
  is_new : (h : ℕ) (node' : Node machine.State) → slice_get d.nodes h ≡ Some node' → h ≡ at → node' ≡ after
  is_new h node' e is = same_Some _ _ (sym e ∙ rw (nodes, is, nth_set c.nodes at after node found))

  elsewhere : (h : ℕ) → (h ≡ at → ⊥) → slice_get c.nodes h ≡ slice_get d.nodes h
  elsewhere h apart = rw (nodes, nth_set_other c.nodes at h after apart)

  pub call_kept : Kept config machine byzantine (ds ++ deed ∷ []) d
  call_kept =
      record {
        long = ap length nodes ∙ length-set c.nodes at after ∙ kept.long;
        placed = λ h node' e.
            let same = subst (SamePlace node.state) judges (step_same node.state c.sealed c.fits room (λ r. (machine.step node.machine r).1) act) in
            grind (arith, is_new h node' e, elsewhere h, kept.placed h node', named, same);
        keeps = λ h node' e honest.
            ⊎_elim (λ (is : h ≡ at). rw (is_new h node' e is) (caller_keeps (rw is at honest) verdict refl).0)
            (λ (apart : h ≡ at → ⊥).
            let old = elsewhere h apart ∙ e in
            let silent = quiet node'.state.number (λ equal. apart (sym (kept.placed h node' old).0 ∙ equal ∙ named.0)) in
            inv_grows grows {s = node'.state} (λ st t. silent st) (kept.keeps h node' old honest))
            (cases_eq h at);
        past = λ h honest.
            past_more config machine byzantine ds c deed d grows h (kept.past h honest)
            (λ act' s a is.
            let event : call at given act ≡ call h is.0 act' = ap (λ (x : Deed). x.event) is.1 in
            let state : Some node.state ≡ Some s = ap (λ (x : Deed). x.was) is.1 in
            let place : at ≡ h = cc in
            let called : act ≡ act' = cc in
            let stood : node.state ≡ s = cc in
            rw (← place, ← called, ← stood) ((caller_keeps (rw (← place) at honest) verdict refl).1 a (ap (λ (x : Deed). x.gave) is.1)));
      }
