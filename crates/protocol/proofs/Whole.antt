-- Agreement: every run keeps what gives the rules of its honest replicas, and the rules give agreement.
use Rattle.std.proofs.Common.{◌≡◌, ℕ, ◌≤◌, Bool, T, List, length, get_or, sym, ap, ◌∙◌, subst, arith}
use Rattle.std.specs.List.{slice_get}
use Rattle.std.proofs.lemmas.Option.{slice_get-get_or, same_Some}
use Rattle.wire.specs.declared.config.ClusterConfig.{ClusterConfig}
use Rattle.groups.proofs.Quorum.{sized}
use Rattle.protocol.specs.declared.state.State.{State}
use Rattle.protocol.specs.Agreement.{log_of, facts_of, Agreement}
use Rattle.protocol.specs.Facts.{Facts}
use Rattle.protocol.specs.Replay.{RequestMachine}
use Rattle.protocol.specs.Rules.{KeepsRules, Rules}
use Rattle.protocol.specs.Runs.{Cluster, Deed, new_node}
use Rattle.protocol.specs.States.{working, entries}
use Rattle.protocol.proofs.Agree.{rules_agree}
use Rattle.protocol.proofs.History.{Past}
use Rattle.protocol.proofs.Lists.{has_entry, entry_placed}
use Rattle.protocol.proofs.Parts.{Inv}
use Rattle.protocol.proofs.Clusters.{Kept}
use Rattle.protocol.proofs.Run.{run_kept}

-- a replica that keeps what it has to, and is where the facts say, keeps the rules
keeps_rules : (machine : RequestMachine) (facts : Facts machine) (s : State) (state : machine.State) → Inv machine facts s state → Past s.config machine facts s.number
    → facts.log s.number ≡ entries s
    → ((view executed : ℕ) (now : machine.State) → facts.Working s.number view executed now
    → T (working s.phase) × (s.view ≡ view) × (s.executed ≡ executed) × (state ≡ now))
    → KeepsRules s.config machine facts s.number
keeps_rules machine facts s state inv past logged works =
    record {
      one_vote = inv.votes.one_vote;
      chooses = λ view number r above grouped known. inv.votes.chosen view number r above known;
      replies = inv.replies.replied;
      carries = past.carries;
      works = λ view executed now w.
          let (working, in_view, so_many, its_machine) = works view executed now w in
          rw (← in_view, ← so_many, ← its_machine) (inv.executes.so_far working);
      logs = λ view number r outcome known.
          let p = inv.replies.replied view number r outcome known in
          let (below, no_later) = inv.replies.entered view p.before r outcome (rw (← p.numbered) known) in
          rw (logged, p.numbered) (has_entry s.log s.logged p.before view below within no_later);
      log_certified = λ number e at.
          let (k, is, below, here) = entry_placed s.log s.logged number e within (rw logged at at) in
          rw is (rw here at (inv.logs.certified k below));
      reports = inv.reports.kept;
      one_closing = inv.closings.one_closing;
      closes = past.closes;
      opens = past.opens;
    }
  where
    within : s.logged ≤ length s.log
    within = omega (arith, inv.shape.few_logged, inv.shape.long_log)

module _ (config : ClusterConfig) (machine : RequestMachine) (byzantine : ℕ → Bool) (ds : List Deed) (c : Cluster machine.State) (kept : Kept config machine byzantine ds c) where
  abbrev facts : Facts machine
  facts = facts_of config machine byzantine ds c

  rules : Rules config machine facts
  rules h honest =
      let node = get_or c.nodes h (new_node machine config h) in
      let found = slice_get-get_or c.nodes h (new_node machine config h) (omega (arith, kept.long, honest.inside)) in
      let (numbered, configured) = kept.placed h node found in
      subst (λ (k : ClusterConfig). KeepsRules k machine facts h) configured
      (subst (KeepsRules node.state.config machine facts) numbered
      (keeps_rules machine facts node.state node.machine (kept.keeps h node found honest.honest)
      (rw (numbered, configured) (kept.past h honest.honest))
      (ap (λ n. log_of (slice_get c.nodes n)) numbered ∙ ap log_of found)
      (λ view executed now w.
      let same = same_Some node w.node (sym found ∙ ap (slice_get c.nodes) (sym numbered) ∙ w.placed) in
      (rw same w.works, rw same w.in_view, rw same w.so_many, rw same w.its_machine))))

pub agreement : (machine : RequestMachine) → Agreement machine
agreement machine config first last ds new run byzantine few covers =
    rules_agree config machine (facts_of config machine byzantine ds last) (record { full = sized config }) few
    (rules config machine byzantine ds last (run_kept config machine byzantine first new run covers))
