-- A cluster, what an event does to it, and the runs that lists of events make.
use Rattle.std.specs.Prelude.{◌≡◌, ℕ, ◌^◌, ◌<◌, min, Bool, false, ◌||◌, List, [], ◌∷◌, ◌++◌, map, length, Some, None, Ok, Err, Option, Result, slice_set, if◌then◌else◌}
use Rattle.std.specs.List.{slice_get, range_with_len}
use Rattle.std.specs.Option.{option_map}
use Rattle.wire.specs.declared.config.ClusterConfig.{ClusterConfig}
use Rattle.wire.specs.declared.fault.ReadFault.TheVariants.{Setting}
use Rattle.wire.specs.Bytes.{Bytes}
use Rattle.wire.specs.Configs.{replicas}
use Rattle.seals.specs.declared.fault.RegisterFault.TheVariants.{Full}
use Rattle.protocol.specs.declared.fault.ReplicaFault.{ReplicaFault}
use Rattle.protocol.specs.declared.fault.ReplicaFault.TheVariants.{Read, Register}
use Rattle.protocol.specs.declared.state.State.{State}
use Rattle.protocol.specs.Replay.{RequestMachine}
use Rattle.protocol.specs.States.{new_state}
use Rattle.protocol.specs.Steps.{Act, hears, Verdict, step}
use Rattle.protocol.specs.Verdicts.{answer_of, state_after, machine_after, added, adds, sealed_after, new_pair, out_after}

-- a replica: its state, and that of its machine
pub record Node (Σ : Type 0) : Type 0 where
  pub state : State
  pub machine : Σ

-- the replicas, each at its place; what the register that they share has sealed and what fits in it; and the buffer lent to calls
pub record Cluster (Σ : Type 0) : Type 0 where
  pub nodes : List (Node Σ)
  pub sealed : ℕ → List ℕ → Bool
  pub fits : ℕ → Bool
  pub out : List ℕ

-- a call of the replica at a place, with at most so much room in the buffer; or a Byzantine seal: any bytes under any number
pub data Event : Type 0 where
  call : (at room : ℕ) → Act → Event
  byzantine_seal : (h : ℕ) → List ℕ → Event

-- where an event leads: the answer, the replicas, what is sealed, the buffer, and whether a new pair was sealed
pub record Next (Σ : Type 0) : Type 0 where
  pub answer : Result ℕ ReplicaFault
  pub nodes : List (Node Σ)
  pub sealed : ℕ → List ℕ → Bool
  pub out : List ℕ
  pub new : Bool

-- what is heard consists of bytes
abbrev pub HeardBytes : Act → Type 0
HeardBytes (hears bytes) = Bytes bytes
HeardBytes act = Unit {0}

abbrev pub Sayable : Event → Type 0
Sayable (call at room act) = HeardBytes act
Sayable (byzantine_seal h bytes) = Unit {0}

-- an answer is a number of eight bytes
abbrev pub Word : Result ℕ ReplicaFault → Type 0
Word (Ok answer) = answer < 2 ^ 64
Word (Err fault) = Unit {0}

-- what was done: the event, the state in which the replica called was, and the answer
pub record Deed : Type 0 where
  pub event : Event
  pub was : Option State
  pub gave : Result ℕ ReplicaFault

-- a replica of a config set up anew, with a fresh machine
abbrev pub new_node : (machine : RequestMachine) → ClusterConfig → ℕ → Node machine.State
new_node machine config h = record { state = new_state config h; machine = machine.fresh }

module _ (machine : RequestMachine) where
  -- a verdict on the call of the replica at a place
  abbrev pub judged : Cluster machine.State → (at : ℕ) → Node machine.State → Verdict → Next machine.State
  judged c at node verdict =
      record {
        answer = answer_of verdict;
        nodes = slice_set c.nodes at (record { state = state_after node.state verdict; machine = machine_after machine node.machine verdict });
        sealed = sealed_after c.sealed node.state.number verdict;
        out = out_after c.out node.state.number verdict;
        new = new_pair c.sealed c.fits node.state.number verdict;
      }

  -- a call at a place, where a replica is or none
  abbrev pub called : Cluster machine.State → (at room : ℕ) → Act → Option (Node machine.State) → Next machine.State
  called c at room act None = record { answer = Err (Read Setting); nodes = c.nodes; sealed = c.sealed; out = c.out; new = false }
  called c at room act (Some node) =
      judged c at node (step c.sealed c.fits (min room (length c.out)) (λ r. (machine.step node.machine r).1) node.state act)

  -- a seal is taken where the pair is known or fits
  abbrev pub does : Cluster machine.State → Event → Next machine.State
  does c (call at room act) = called c at room act (slice_get c.nodes at)
  does c (byzantine_seal h bytes) =
      record {
        answer = if c.sealed h bytes || c.fits (length bytes) then Ok 0 else Err (Register Full);
        nodes = c.nodes;
        sealed = if c.sealed h bytes || c.fits (length bytes) then added c.sealed h bytes else c.sealed;
        out = c.out;
        new = adds c.sealed c.fits h bytes;
      }

  -- an event at cluster c gives this answer and leaves d; what fits is for the register to say, and changes only with a new pair
  pub record Happens (c : Cluster machine.State) (e : Event) (answer : Result ℕ ReplicaFault) (d : Cluster machine.State) : Type 0 where
    pub answers : answer ≡ (does c e).answer
    pub nodes : d.nodes ≡ (does c e).nodes
    pub sealed : d.sealed ≡ (does c e).sealed
    pub out : d.out ≡ (does c e).out
    pub kept : (does c e).new ≡ false → d.fits ≡ c.fits
    pub word : Word answer
    pub sayable : Sayable e

  -- the state of the replica that an event calls
  abbrev pub caller : Cluster machine.State → Event → Option State
  caller c (call at room act) = option_map (λ node. node.state) (slice_get c.nodes at)
  caller c (byzantine_seal h bytes) = None

  -- what is done leads from a cluster to a cluster; the last deed last
  pub data Run (first : Cluster machine.State) : List Deed → Cluster machine.State → Type 0 where
    none : Run first [] first
    more : (ds : List Deed) (c : Cluster machine.State) (e : Event) (answer : Result ℕ ReplicaFault) (d : Cluster machine.State)
        → Run first ds c → Happens c e answer d → Run first (ds ++ record { event = e; was = caller c e; gave = answer } ∷ []) d

  -- a new cluster: each replica set up anew under the number of its place, and nothing sealed
  pub record New (config : ClusterConfig) (c : Cluster machine.State) : Type 0 where
    pub nodes : c.nodes ≡ map (new_node machine config) (range_with_len 0 (replicas config))
    pub sealed : (h : ℕ) (bytes : List ℕ) → c.sealed h bytes ≡ false
