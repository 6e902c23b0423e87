-- A new cluster keeps what its replicas have to keep: nothing is known, prepared, logged or held.
use Rattle.std.proofs.Common.{◌≡◌, ℕ, ◌<◌, Bool, T, [], map, length, Some, refl, ap, ◌∙◌, subst, arith}
use lib.ListN.{length-replicate}
use Rattle.std.specs.List.{slice_get, range_with_len}
use Rattle.std.proofs.lemmas.List.FromFn.{length-map-range_with_len, get_or-map-range_with_len}
use Rattle.wire.specs.declared.config.ClusterConfig.{ClusterConfig}
use Rattle.wire.specs.declared.entry.LogEntry.{LogEntry}
use Rattle.wire.specs.declared.request.Request.{Request}
use Rattle.wire.specs.Configs.{replicas}
use Rattle.wire.specs.Statements.{Statement}
use Rattle.protocol.specs.Agreement.{facts_of}
use Rattle.protocol.specs.Certificates.{message}
use Rattle.protocol.specs.Facts.{Facts}
use Rattle.protocol.specs.Replay.{RequestMachine}
use Rattle.protocol.specs.Rules.{nothing}
use Rattle.protocol.specs.Runs.{Node, Cluster, new_node, New}
use Rattle.protocol.specs.States.{new_state}
use Rattle.std.proofs.lemmas.Option.{slice_get_within, get_or_from_slice_get}
use Rattle.protocol.proofs.Parts.{Inv}
use Rattle.protocol.proofs.Clusters.{Kept}

module _ (config : ClusterConfig) (machine : RequestMachine) (byzantine : ℕ → Bool) where
  module _ (facts : Facts machine) (h : ℕ) (inside : h < replicas config) (none : (x : ℕ) (st : Statement) → facts.Known x st → ⊥) where
    new_inv : Inv machine facts (new_state config h) machine.fresh
    new_inv =
        record {
          shape = search (arith, inside, length-replicate {A = Request}, length-replicate {A = LogEntry}, length-replicate {A = ℕ});
          votes = search (arith, none);
          prepares = search arith;
          executes = record { so_far = λ t. nothing };
          replies = search (arith, none);
          logs = search arith;
          reports = search (arith, none);
          closings = search (arith, none);
          holds = search arith;
          opens = search arith;
        }

  pub new_kept : (first : Cluster machine.State) → New machine config first → Kept config machine byzantine [] first
  new_kept first new =
      record {
        long = ap length new.nodes ∙ length-map-range_with_len (new_node machine config) 0 (replicas config);
        placed = λ h node e. rw (is_new h node e).1 (refl, refl);
        keeps = λ h node e honest.
            rw (is_new h node e).1 (new_inv (facts_of config machine byzantine [] first) h (is_new h node e).0 (λ x st made. subst T (new.sealed x (message x st)) made.1));
        past = λ h honest. search arith;
      }
    where
      is_new : (h : ℕ) (node : Node machine.State) → slice_get first.nodes h ≡ Some node → (h < replicas config) × (node ≡ new_node machine config h)
      is_new h node e =
          let first_node = new_node machine config h in
          let nodes = map (new_node machine config) (range_with_len 0 (replicas config)) in
          let found : slice_get nodes h ≡ Some node = rw new.nodes at e in
          grind (
            arith,
            slice_get_within nodes h node found,
            get_or_from_slice_get nodes h node first_node found,
            length-map-range_with_len (new_node machine config) 0 (replicas config),
            get_or-map-range_with_len (new_node machine config) 0 (replicas config) h h first_node,
          )
