-- Every run of a new cluster keeps what its honest replicas keep: each event by its caller's step, and for the others because more is known.
use Rattle.std.proofs.Common.{◌≡◌, ℕ, min, Bool, List, [], ◌∷◌, ◌++◌, length, Some, None, Option, Result, refl, ap, arith}
use Rattle.std.specs.List.{slice_get}
use Rattle.std.proofs.lemmas.Option.{none-some}
use Rattle.wire.specs.declared.config.ClusterConfig.{ClusterConfig}
use Rattle.protocol.specs.declared.fault.ReplicaFault.{ReplicaFault}
use Rattle.protocol.specs.Agreement.{Covers}
use Rattle.protocol.specs.Replay.{RequestMachine}
use Rattle.protocol.specs.Runs.{Node, Cluster, Event, call, byzantine_seal, Deed, Happens, Run, none, more, New, caller}
use Rattle.protocol.proofs.History.{among_more, among_new}
use Rattle.protocol.proofs.Known.{made_by_others}
use Rattle.protocol.proofs.Clusters.{Kept, still_kept, call_kept}
use Rattle.protocol.proofs.Starting.{new_kept}

module _ (config : ClusterConfig) (machine : RequestMachine) (byzantine : ℕ → Bool) where
  event_kept : (ds : List Deed) (c : Cluster machine.State) → Kept config machine byzantine ds c → (e : Event) (answer : Result ℕ ReplicaFault) (d : Cluster machine.State)
      → Happens machine c e answer d → Covers byzantine (ds ++ record { event = e; was = caller machine c e; gave = answer } ∷ [])
      → Kept config machine byzantine (ds ++ record { event = e; was = caller machine c e; gave = answer } ∷ []) d
  event_kept ds c kept (call at room act) answer d happens covers = go (slice_get c.nodes at) refl
    where
      go : (place : Option (Node machine.State)) → slice_get c.nodes at ≡ place
          → Kept config machine byzantine (ds ++ record { event = call at room act; was = caller machine c (call at room act); gave = answer } ∷ []) d
      go None found =
          still_kept config machine byzantine ds c kept _ d (rw found at happens.nodes)
          (λ h act' s a is. none-some s (rw found at (ap (λ (x : Deed). x.was) is.1)))
          (λ g st made. rw (happens.sealed, found) made) (λ g honest st made. rw (happens.sealed, found) at made)
      go (Some node) found =
          rw found
          (call_kept config machine byzantine ds c kept at (min room (length c.out)) room act node found answer d happens.word happens.sayable _ refl
          (rw found at happens.answers) (rw found at happens.nodes) (rw found at happens.sealed))
  event_kept ds c kept (byzantine_seal h bytes) answer d happens covers =
      still_kept config machine byzantine ds c kept _ d happens.nodes
      (λ g act s a is. let event = ap (λ (x : Deed). x.event) is.1 in cc)
      (λ g st made. rw happens.sealed (grind arith))
      (λ g honest st made.
      let was = rw happens.sealed at made in
      grind (arith, covers h bytes answer (among_new _ ds), made_by_others config c.sealed h bytes g st))

  pub run_kept : (first : Cluster machine.State) → New machine config first → {ds : List Deed} {c : Cluster machine.State} → Run machine first ds c
      → Covers byzantine ds → Kept config machine byzantine ds c
  run_kept first new none covers = new_kept config machine byzantine first new
  run_kept first new (more ds c e answer d run happens) covers =
      event_kept ds c (run_kept first new run (λ h bytes gave among. covers h bytes gave (among_more _ _ ds among))) e answer d happens covers
