-- What the history of a run shows, and agreement: what holds of every run of a new cluster.
use Rattle.std.specs.Prelude.{◌≡◌, ℕ, ◌+◌, ◌≤◌, Bool, T, ◌⊎◌, List, [], ◌∷◌, Some, None, Ok, Option, Result}
use Rattle.std.specs.List.{slice_get}
use Rattle.wire.specs.declared.config.ClusterConfig.{ClusterConfig}
use Rattle.wire.specs.declared.entry.LogEntry.{LogEntry}
use Rattle.wire.specs.declared.request.Request.{Request}
use Rattle.wire.specs.Configs.{faults, replicas}
use Rattle.wire.specs.Counting.{count}
use Rattle.protocol.specs.declared.fault.ReplicaFault.{ReplicaFault}
use Rattle.protocol.specs.declared.state.State.{State}
use Rattle.protocol.specs.Facts.{Facts, Agrees}
use Rattle.protocol.specs.Receipts.{Made}
use Rattle.protocol.specs.Replay.{RequestMachine}
use Rattle.protocol.specs.Runs.{Node, Cluster, call, byzantine_seal, Deed, Run, New}
use Rattle.protocol.specs.Selecting.{holds}
use Rattle.protocol.specs.States.{working, next_request, entries}
use Rattle.protocol.specs.Steps.{Act, carries_out, closes, opens}

-- the deed is one of the history's
abbrev pub Among : Deed → List Deed → Type 0
Among d [] = ⊥
Among d (e ∷ es) = (d ≡ e) ⊎ Among d es

-- a call of the replica at place h, which was in state s, was accepted with this answer
pub record Accepted (ds : List Deed) (h : ℕ) (act : Act) (s : State) (answer : ℕ) : Type 0 where
  pub room : ℕ
  pub done : Among (record { event = call h room act; was = Some s; gave = Ok answer }) ds

-- replica h opened the view
pub record Opened (ds : List Deed) (h view : ℕ) : Type 0 where
  pub state : State
  pub answer : ℕ
  pub accepted : Accepted ds h opens state answer
  pub in_view : state.view ≡ view

-- replica h closed in the view while it held the reports of the replicas that pass the test
pub record ClosedHolding (ds : List Deed) (h view : ℕ) (holding : ℕ → Bool) : Type 0 where
  pub state : State
  pub answer : ℕ
  pub accepted : Accepted ds h closes state answer
  pub in_view : state.view ≡ view
  pub held : (x : ℕ) → T (holding x) → T (holds state x)

-- replica h carried out the request as a number of the view, with the outcome
pub record CarriedOut (ds : List Deed) (h view number : ℕ) (r : Request) (outcome : ℕ) : Type 0 where
  pub state : State
  pub accepted : Accepted ds h carries_out state outcome
  pub in_view : state.view ≡ view
  pub numbered : number ≡ state.executed + 1
  pub requested : r ≡ next_request state

-- replica h works in the view, where it executed so many requests, and its machine is in a state
pub record WorksIn {Σ : Type 0} (c : Cluster Σ) (h view executed : ℕ) (machine : Σ) : Type 0 where
  pub node : Node Σ
  pub placed : slice_get c.nodes h ≡ Some node
  pub works : T (working node.state.phase)
  pub in_view : node.state.view ≡ view
  pub so_many : node.state.executed ≡ executed
  pub its_machine : node.machine ≡ machine

-- the log of a replica, as far as it is filled
abbrev pub log_of : {Σ : Type 0} → Option (Node Σ) → List LogEntry
log_of None = []
log_of (Some node) = entries node.state

-- what a history and the cluster that it led to show
abbrev pub facts_of : ClusterConfig → (machine : RequestMachine) → (byzantine : ℕ → Bool) → List Deed → Cluster machine.State → Facts machine
facts_of config machine byzantine ds c =
    record {
      byzantine = byzantine;
      Known = Made config c.sealed;
      Opened = Opened ds;
      Closed = ClosedHolding ds;
      Carried = CarriedOut ds;
      Working = WorksIn c;
      log = λ h. log_of (slice_get c.nodes h);
    }

-- the choice of Byzantine replicas covers the sender of each Byzantine seal
abbrev pub Covers : (byzantine : ℕ → Bool) → List Deed → Type 0
Covers byzantine ds =
    (h : ℕ) (bytes : List ℕ) (gave : Result ℕ ReplicaFault)
    → Among (record { event = byzantine_seal h bytes; was = None; gave = gave }) ds → T (byzantine h)

-- every run of a new cluster agrees, whoever the at most t Byzantine replicas are
abbrev pub Agreement : RequestMachine → Type 0
Agreement machine =
    (config : ClusterConfig) (first last : Cluster machine.State) (ds : List Deed) → New machine config first → Run machine first ds last
    → (byzantine : ℕ → Bool) → count (replicas config) byzantine ≤ faults config → Covers byzantine ds
    → Agrees config machine (facts_of config machine byzantine ds last)
