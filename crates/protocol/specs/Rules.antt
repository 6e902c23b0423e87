-- The rules that each honest replica keeps by itself, and that agreement follows from.
use Rattle.std.specs.Prelude.{◌≡◌, ℕ, suc, ◌+◌, ◌<◌, ◌≤◌, Bool, T, List, Some}
use Rattle.wire.specs.declared.config.ClusterConfig.{ClusterConfig}
use Rattle.wire.specs.declared.entry.LogEntry.{LogEntry}
use Rattle.wire.specs.declared.request.Request.{Request}
use Rattle.wire.specs.Configs.{faults, replicas}
use Rattle.wire.specs.Counting.{count, names}
use Rattle.wire.specs.Statements.{report, closing, reply}
use Rattle.groups.specs.Groups.{member}
use Rattle.protocol.specs.Facts.{Facts, Honest, FromGroup, Agrees}
use Rattle.protocol.specs.Numbers.{at_number}
use Rattle.protocol.specs.Replay.{RequestMachine}
use Rattle.protocol.specs.Votes.{vote}

-- all that is asked of groups: each has t + 1 members
pub record GroupLaws (config : ClusterConfig) : Type 0 where
  pub full : (view : ℕ) → count (replicas config) (member config view) ≡ faults config + 1

-- a log has an entry for a number, of some view or a later one
abbrev pub HasEntry : List LogEntry → (number view : ℕ) → Type 0
HasEntry entries number view = (e : LogEntry) × (at_number entries number ≡ Some e) × (view ≤ e.view)

module _ (config : ClusterConfig) (machine : RequestMachine) (facts : Facts machine) where
  -- the certificate of a request for a number of a view: votes from the whole group
  abbrev pub Certified : (view number : ℕ) → Request → Type 0
  Certified view number r = FromGroup config machine facts view (λ h. vote config view h number r)

  -- a request is certified for a number in a view from `from` on and below `to`
  abbrev pub Backed : (from to number : ℕ) → Request → Type 0
  Backed from to number r = (view : ℕ) × (from ≤ view) × (view < to) × Certified view number r

  -- replica h executed the numbers 1 to k of a view from a fresh machine, each certified and replied to, which left its machine in a state
  pub data Executed (h view : ℕ) : (k : ℕ) → machine.State → Type 0 where
    nothing : Executed h view 0 machine.fresh
    one_more : {k : ℕ} {state : machine.State} (r : Request) → Executed h view k state → Certified view (suc k) r
        → facts.Known h (reply view (suc k) r (machine.step state r).1) → Executed h view (suc k) (machine.step state r).0

  -- what stands behind a reply: the numbers before, the certificate and the machine's outcome
  pub record Replied (h view number : ℕ) (r : Request) (outcome : ℕ) : Type 0 where
    pub before : ℕ
    pub numbered : number ≡ suc before
    pub state : machine.State
    pub executed : Executed h view before state
    pub certified : Certified view number r
    pub gives : outcome ≡ (machine.step state r).1

  -- x's report for a view, which choosing request r for a number heeds: r is certified in no lower view than that of the report's entry
  pub record Heeded (view number : ℕ) (r : Request) (x : ℕ) : Type 0 where
    pub entries : List LogEntry
    pub reported : facts.Known x (report view entries)
    pub highest : (e : LogEntry) → at_number entries number ≡ Some e → Backed e.view view number r

  -- what stands behind a vote in a view above 0: the replica opened the view, and heeds the reports that its closing names
  pub record Chosen (h view number : ℕ) (r : Request) : Type 0 where
    pub opened : facts.Opened h view
    pub mask : ℕ
    pub closed : facts.Known h (closing view mask)
    pub heeds : (x : ℕ) → x < replicas config → T (names mask x) → Heeded view number r x

  -- a closing that names each replica that passes the test
  pub record ClosingNames (h view : ℕ) (holding : ℕ → Bool) : Type 0 where
    pub mask : ℕ
    pub closed : facts.Known h (closing view mask)
    pub naming : (x : ℕ) → x < replicas config → T (holding x) → T (names mask x)

  -- what stands behind an opening of a view above 0: the replica is of the group, and closed with t + 1 reports
  pub record ClosedBefore (h view : ℕ) : Type 0 where
    pub grouped : T (member config view h)
    pub holding : ℕ → Bool
    pub closed : facts.Closed h view holding
    pub enough : faults config + 1 ≤ count (replicas config) holding

  -- the rules that replica h keeps
  pub record KeepsRules (h : ℕ) : Type 0 where
    -- it votes for one request per view and number
    pub one_vote : (view number : ℕ) (r r' : Request)
        → facts.Known h (vote config view h number r) → facts.Known h (vote config view h number r') → r ≡ r'
    -- above view 0 it votes for what the reports give
    pub chooses : (view number : ℕ) (r : Request) → 0 < view → T (member config view h)
        → facts.Known h (vote config view h number r) → Chosen h view number r
    -- it replies to what it executed in order
    pub replies : (view number : ℕ) (r : Request) (outcome : ℕ)
        → facts.Known h (reply view number r outcome) → Replied h view number r outcome
    -- it replies to what it carries out
    pub carries : (view number : ℕ) (r : Request) (outcome : ℕ)
        → facts.Carried h view number r outcome → facts.Known h (reply view number r outcome)
    -- its machine is where its requests leave it
    pub works : (view executed : ℕ) (state : machine.State) → facts.Working h view executed state → Executed h view executed state
    -- its log has what it replied to, and each entry is certified
    pub logs : (view number : ℕ) (r : Request) (outcome : ℕ)
        → facts.Known h (reply view number r outcome) → HasEntry (facts.log h) number view
    pub log_certified : (number : ℕ) (e : LogEntry) → at_number (facts.log h) number ≡ Some e → Certified e.view number e.request
    -- its reports have what it replied to in earlier views
    pub reports : (view number : ℕ) (r : Request) (outcome later : ℕ) (entries : List LogEntry) → view < later
        → facts.Known h (reply view number r outcome) → facts.Known h (report later entries) → HasEntry entries number view
    -- it states one closing per view, which names the reports that it held
    pub one_closing : (view mask mask' : ℕ) → facts.Known h (closing view mask) → facts.Known h (closing view mask') → mask ≡ mask'
    pub closes : (view : ℕ) (holding : ℕ → Bool) → facts.Closed h view holding → ClosingNames h view holding
    -- it opens what it closed in
    pub opens : (view : ℕ) → 0 < view → facts.Opened h view → ClosedBefore h view

  -- each honest replica keeps the rules
  abbrev pub Rules : Type 0
  Rules = (h : ℕ) → Honest config machine facts h → KeepsRules h

-- the rules give agreement, whoever the at most t Byzantine replicas are
abbrev pub RulesAgree : Type 1
RulesAgree =
    (config : ClusterConfig) (machine : RequestMachine) (facts : Facts machine) → GroupLaws config → count (replicas config) facts.byzantine ≤ faults config
    → Rules config machine facts → Agrees config machine facts
