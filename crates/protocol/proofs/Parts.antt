-- What an honest replica keeps, in parts. A part names only the fields of the state that it is about, so that a call that leaves
-- these alone owes it only that more is known.
use Rattle.std.proofs.Common.{◌≡◌, ℕ, suc, ◌<◌, ◌≤◌, Bool, true, false, not, T, List, length, get_or, Some, Option}
use Rattle.wire.specs.declared.config.ClusterConfig.{ClusterConfig}
use Rattle.wire.specs.declared.entry.LogEntry.{LogEntry}
use Rattle.wire.specs.declared.request.Request.{Request}
use Rattle.wire.specs.Configs.{replicas}
use Rattle.wire.specs.Counting.{names}
use Rattle.wire.specs.Kinds.{last_view, last_number}
use Rattle.wire.specs.Statements.{prepare, commit, report, closing, reply}
use Rattle.groups.specs.Groups.{primary}
use Rattle.protocol.specs.declared.state.Phase.{Phase}
use Rattle.protocol.specs.declared.state.Phase.TheVariants.{Working, Aside, Turning, Closed}
use Rattle.protocol.specs.declared.state.State.{State}
use Rattle.protocol.specs.Facts.{Facts}
use Rattle.protocol.specs.Replay.{RequestMachine}
use Rattle.protocol.specs.Rules.{Certified, Executed, Replied, Chosen, ClosedBefore, HasEntry}
use Rattle.protocol.specs.States.{blank, blank_entry, most_replicas, working, active, held, noted}
use Rattle.protocol.specs.Votes.{vote}

-- the phases of a member of the view's group that has reported
abbrev pub serving : Phase → Bool
serving Aside = false
serving Turning = false
serving phase = true

-- the phases after closing
abbrev pub has_closed : Phase → Bool
has_closed Working = true
has_closed Closed = true
has_closed phase = false

-- lengths and limits
pub record Shape (s : State) : Type 0 where
  pub inside : s.number < replicas s.config
  pub long_requests : length s.requests ≡ last_number
  pub long_log : length s.log ≡ last_number
  pub long_commits : length s.commits_heard ≡ last_number
  pub long_reports : length s.reports ≡ most_replicas
  pub long_closings : length s.closings ≡ most_replicas
  pub few_prepared : s.prepared ≤ last_number
  pub few_logged : s.logged ≤ last_number
  pub executed_logged : s.executed ≤ s.logged
  pub low_view : s.view ≤ last_view
  pub grouped : T (serving s.phase) → T (active s)

module _ (config : ClusterConfig) (machine : RequestMachine) (facts : Facts machine) (h : ℕ) where
  -- the votes that it made: those of its view are for what it prepared there
  pub record Votes (view : ℕ) (phase : Phase) (prepared : ℕ) (requests : List Request) : Type 0 where
    pub none_later : (v n : ℕ) (r : Request) → facts.Known h (vote config v h n r) → v ≤ view
    pub in_view : (n : ℕ) (r : Request) → facts.Known h (vote config view h n r)
        → T (working phase) × ((k : ℕ) × (n ≡ suc k) × (k < prepared) × (get_or requests k blank ≡ r))
    pub one_vote : (v n : ℕ) (r r' : Request) → facts.Known h (vote config v h n r) → facts.Known h (vote config v h n r') → r ≡ r'
    pub chosen : (v n : ℕ) (r : Request) → 0 < v → facts.Known h (vote config v h n r) → Chosen config machine facts h v n r

  -- the votes that stand behind what it prepared in the view in which it works
  pub record Prepares (view : ℕ) (phase : Phase) (prepared : ℕ) (requests : List Request) (commits : List ℕ) : Type 0 where
    pub led : T (working phase) → (k : ℕ) → k < prepared → facts.Known (primary config view) (prepare view (suc k) (get_or requests k blank))
    pub heard : T (working phase) → (k g : ℕ) → k < prepared → g < replicas config → T (names (get_or commits k 0) g)
        → facts.Known g (commit view (suc k) (get_or requests k blank))

  -- what it executed in the view in which it works
  pub record Executes (view : ℕ) (phase : Phase) (executed : ℕ) (state : machine.State) : Type 0 where
    pub so_far : T (working phase) → Executed config machine facts h view executed state

  -- its replies: each is to what it executed, and has an entry in the log
  pub record Replies (view logged : ℕ) (log : List LogEntry) : Type 0 where
    pub none_later : (v n : ℕ) (r : Request) (outcome : ℕ) → facts.Known h (reply v n r outcome) → v ≤ view
    pub replied : (v n : ℕ) (r : Request) (outcome : ℕ) → facts.Known h (reply v n r outcome) → Replied config machine facts h v n r outcome
    pub entered : (v k : ℕ) (r : Request) (outcome : ℕ) → facts.Known h (reply v (suc k) r outcome)
        → (k < logged) × (v ≤ (get_or log k blank_entry).view)

  -- its log: each entry is certified
  pub record Logs (view : ℕ) (phase : Phase) (logged : ℕ) (log : List LogEntry) : Type 0 where
    pub certified : (k : ℕ) → k < logged → Certified config machine facts (get_or log k blank_entry).view (suc k) (get_or log k blank_entry).request
    pub none_later : (k : ℕ) → k < logged → (get_or log k blank_entry).view ≤ view
    pub earlier : T (not (working phase)) → (k : ℕ) → k < logged → (get_or log k blank_entry).view < view

  -- its reports: each has what it replied to before
  pub record Reports (view : ℕ) : Type 0 where
    pub none_later : (w : ℕ) (es : List LogEntry) → facts.Known h (report w es) → w ≤ view
    pub kept : (v n : ℕ) (r : Request) (outcome w : ℕ) (es : List LogEntry) → v < w
        → facts.Known h (reply v n r outcome) → facts.Known h (report w es) → HasEntry es n v

  -- its closings: one per view
  pub record Closings (view : ℕ) (phase : Phase) : Type 0 where
    pub none_later : (w mask : ℕ) → facts.Known h (closing w mask) → w ≤ view
    pub in_view : (mask : ℕ) → facts.Known h (closing view mask) → T (has_closed phase)
    pub one_closing : (w mask mask' : ℕ) → facts.Known h (closing w mask) → facts.Known h (closing w mask') → mask ≡ mask'
    pub closed : T (has_closed phase) → 0 < view → ClosedBefore config machine facts h view

  -- the reports that it holds and the closings that it noted
  pub record Holds (view : ℕ) (held : ℕ → Option (List LogEntry)) (noted : ℕ → Option ℕ) : Type 0 where
    pub reported : (x : ℕ) (es : List LogEntry) → held x ≡ Some es → facts.Known x (report view es)
    pub short : (x : ℕ) (es : List LogEntry) → held x ≡ Some es → length es ≤ last_number
    pub certified : (x : ℕ) (es : List LogEntry) → held x ≡ Some es → (k : ℕ) → k < length es
        → ((get_or es k blank_entry).view < view) × Certified config machine facts (get_or es k blank_entry).view (suc k) (get_or es k blank_entry).request
    pub noted_closing : (g mask : ℕ) → noted g ≡ Some mask → facts.Known g (closing view mask)

  -- what it may vote for in the view in which it works: up to the last number selected only what is selected
  pub record Opens (view : ℕ) (phase : Phase) (selected : ℕ) (selection : List Request) : Type 0 where
    pub chosen : T (working phase) → 0 < view → (k : ℕ) (r : Request) → (k < selected → r ≡ get_or selection k blank)
        → Chosen config machine facts h view (suc k) r

-- all of it
pub record Inv (machine : RequestMachine) (facts : Facts machine) (s : State) (state : machine.State) : Type 0 where
  pub shape : Shape s
  pub votes : Votes s.config machine facts s.number s.view s.phase s.prepared s.requests
  pub prepares : Prepares s.config machine facts s.number s.view s.phase s.prepared s.requests s.commits_heard
  pub executes : Executes s.config machine facts s.number s.view s.phase s.executed state
  pub replies : Replies s.config machine facts s.number s.view s.logged s.log
  pub logs : Logs s.config machine facts s.number s.view s.phase s.logged s.log
  pub reports : Reports s.config machine facts s.number s.view
  pub closings : Closings s.config machine facts s.number s.view s.phase
  pub holds : Holds s.config machine facts s.number s.view (held s) (noted s)
  pub opens : Opens s.config machine facts s.number s.view s.phase s.selected s.selection
