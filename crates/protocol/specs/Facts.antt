-- What can be said of a cluster and its past, and what agreement claims of it.
use Rattle.std.specs.Prelude.{◌≡◌, ℕ, ◌+◌, ◌-◌, ◌<◌, ◌≤◌, Bool, not, ◌&&◌, T, List, take, Some}
use Rattle.wire.specs.declared.config.ClusterConfig.{ClusterConfig}
use Rattle.wire.specs.declared.entry.LogEntry.{LogEntry}
use Rattle.wire.specs.declared.request.Request.{Request}
use Rattle.wire.specs.Configs.{faults, replicas}
use Rattle.wire.specs.Counting.{count}
use Rattle.wire.specs.Statements.{Statement}
use Rattle.groups.specs.Groups.{member}
use Rattle.protocol.specs.Numbers.{at_number}
use Rattle.protocol.specs.Replay.{RequestMachine, outcome_of}
use Rattle.protocol.specs.Replies.{AlikeReplies}

pub record Facts (machine : RequestMachine) : Type 1 where
  -- a replica is Byzantine; else it is honest
  pub byzantine : ℕ → Bool
  -- the register knows that a replica made a statement
  pub Known : (replica : ℕ) → Statement → Type 0
  -- a replica opened a view
  pub Opened : (replica view : ℕ) → Type 0
  -- a replica closed in a view while it held the reports of the replicas that pass the test
  pub Closed : (replica view : ℕ) → (holding : ℕ → Bool) → Type 0
  -- a replica carried out a request as a number of a view, with an outcome
  pub Carried : (replica view number : ℕ) → Request → (outcome : ℕ) → Type 0
  -- a replica works in a view in which it executed so many requests, and its machine is in a state
  pub Working : (replica view executed : ℕ) → machine.State → Type 0
  -- the log of a replica
  pub log : ℕ → List LogEntry

module _ (config : ClusterConfig) (machine : RequestMachine) (facts : Facts machine) where
  -- an honest replica of the cluster
  pub record Honest (h : ℕ) : Type 0 where
    pub inside : h < replicas config
    pub honest : T (not (facts.byzantine h))

  -- an honest replica of a view's group
  pub record Serves (h view : ℕ) : Type 0 where
    pub replica : Honest h
    pub grouped : T (member config view h)

  -- each member of a view's group made its statement
  abbrev pub FromGroup : (view : ℕ) → (ℕ → Statement) → Type 0
  FromGroup view statement = (h : ℕ) → h < replicas config → T (member config view h) → facts.Known h (statement h)

  -- a receipt: replies alike from a view's whole group
  abbrev pub Receipt : (view number : ℕ) → Request → (outcome : ℕ) → Type 0
  Receipt = AlikeReplies config facts.Known

  -- a witness of a view: an honest replica of its group that closed in it while it held the reports of t + 1 honest replicas
  pub record Witness (view : ℕ) : Type 0 where
    pub who : ℕ
    pub serves : Serves who view
    pub holding : ℕ → Bool
    pub closed : facts.Closed who view holding
    pub enough : faults config + 1 ≤ count (replicas config) (λ x. not (facts.byzantine x) && holding x)

  -- each view above 0 that an honest replica opened has a witness
  abbrev pub Witnessed : Type 0
  Witnessed = (h view : ℕ) → 0 < view → Honest h → facts.Opened h view → Witness view

  -- one list of requests: each receipt for n names its nth request, with the outcome that a fresh machine gives after the n - 1 before it
  pub record OneList : Type 0 where
    pub requests : List Request
    pub named : (view n : ℕ) (r : Request) (outcome : ℕ) → Receipt view n r outcome
        → (at_number requests n ≡ Some r) × (outcome ≡ outcome_of machine (take (n - 1) requests) r)

  -- what an honest replica carries out as number n in the view of a receipt for n, or in a later one, is that receipt's request, with its outcome
  abbrev pub LaterSame : Type 0
  LaterSame =
      (view n : ℕ) (r : Request) (outcome : ℕ) → Receipt view n r outcome
      → (h later : ℕ) (r' : Request) (outcome' : ℕ) → Honest h → view ≤ later → facts.Carried h later n r' outcome' → (r' ≡ r) × (outcome' ≡ outcome)

  -- honest replicas that work in one view and executed equally many requests have machines in equal states
  abbrev pub SameStates : Type 0
  SameStates =
      (h h' view executed : ℕ) (state state' : machine.State) → Honest h → Honest h'
      → facts.Working h view executed state → facts.Working h' view executed state' → state ≡ state'

  -- agreement
  pub record Agrees : Type 0 where
    pub one_list : Witnessed → OneList
    pub later_same : Witnessed → LaterSame
    pub same_states : SameStates
    pub all_honest : ((x : ℕ) → x < replicas config → T (not (facts.byzantine x))) → Witnessed
