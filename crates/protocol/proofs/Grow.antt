-- What an honest replica keeps stays when more is known, if it made no new statement of the kinds that a part is about.
use Rattle.std.proofs.Common.{◌≡◌, ℕ, Bool, true, false, ◌||◌, T, ◌⊎◌, List, Some, None, Option, arith}
use Rattle.wire.specs.declared.config.ClusterConfig.{ClusterConfig}
use Rattle.wire.specs.declared.entry.LogEntry.{LogEntry}
use Rattle.wire.specs.declared.request.Request.{Request}
use Rattle.wire.specs.Laws.{Fits}
use Rattle.wire.specs.Statements.{Statement, prepare, commit, doubt, report, closing, reply}
use Rattle.protocol.specs.declared.state.Phase.{Phase}
use Rattle.protocol.specs.declared.state.State.{State}
use Rattle.protocol.specs.Facts.{Facts}
use Rattle.protocol.specs.Replay.{RequestMachine}
use Rattle.protocol.specs.Rules.{Certified, Backed, Executed, nothing, one_more, Replied, Heeded, Chosen, ClosedBefore}
use Rattle.protocol.specs.Steps.{Effect}
use Rattle.protocol.specs.Verdicts.{used}
use Rattle.protocol.specs.Votes.{vote}
use Rattle.protocol.proofs.Parts.{Votes, Prepares, Executes, Replies, Logs, Reports, Closings, Holds, Opens, Inv}

-- ---- kinds of statements

abbrev pub is_vote : Statement → Bool
is_vote (prepare v n r) = true
is_vote (commit v n r) = true
is_vote st = false

abbrev pub is_report : Statement → Bool
is_report (report v es) = true
is_report st = false

abbrev pub is_closing : Statement → Bool
is_closing (closing v mask) = true
is_closing st = false

abbrev pub is_reply : Statement → Bool
is_reply (reply v n r outcome) = true
is_reply st = false

-- the kinds that a part is about
abbrev pub matters : Statement → Bool
matters st = is_vote st || (is_reply st || (is_report st || is_closing st))

-- a statement, if there is one, is of the kind
abbrev pub of_kind : (Statement → Bool) → Option Statement → Bool
of_kind kind None = false
of_kind kind (Some st) = kind st

pub vote_is : (config : ClusterConfig) (v h n : ℕ) (r : Request) → T (is_vote (vote config v h n r))
vote_is config v h n r = grind arith

-- a statement, if there is one, is a doubt
abbrev pub Doubting : Option Statement → Type 0
Doubting statement = (st : Statement) → statement ≡ Some st → (v : ℕ) × (st ≡ doubt v)

module _ {machine : RequestMachine} where
  -- all that was known is known
  pub record Grows (facts facts' : Facts machine) : Type 0 where
    pub known : (x : ℕ) (st : Statement) → facts.Known x st → facts'.Known x st
    pub opened : (x v : ℕ) → facts.Opened x v → facts'.Opened x v
    pub closed : (x v : ℕ) (holding : ℕ → Bool) → facts.Closed x v holding → facts'.Closed x v holding
    pub carried : (x v n : ℕ) (r : Request) (outcome : ℕ) → facts.Carried x v n r outcome → facts'.Carried x v n r outcome

  -- and replica h made this statement, or none, and no other
  pub record Adds (facts facts' : Facts machine) (h : ℕ) (statement : Option Statement) : Type 0 where
    pub grows : Grows facts facts'
    pub only : (st : Statement) → facts'.Known h st → facts.Known h st ⊎ (statement ≡ Some st)
    pub new : (st : Statement) → statement ≡ Some st → facts'.Known h st

  -- replica h made no new statement of a kind
  abbrev pub Silent : (facts facts' : Facts machine) (h : ℕ) → (Statement → Bool) → Type 0
  Silent facts facts' h kind = (st : Statement) → T (kind st) → facts'.Known h st → facts.Known h st

  -- a statement of another kind leaves a kind alone
  pub silent : {facts facts' : Facts machine} {h : ℕ} {statement : Option Statement} → Adds facts facts' h statement
      → (kind : Statement → Bool) → (T (of_kind kind statement) → ⊥) → Silent facts facts' h kind
  silent adds kind other st t k = grind (arith, adds.only st k)

-- ---- what grows by itself

module _ (config : ClusterConfig) {machine : RequestMachine} {facts facts' : Facts machine} (grows : Grows facts facts') where
  pub certified_grows : (v n : ℕ) (r : Request) → Certified config machine facts v n r → Certified config machine facts' v n r
  certified_grows v n r certified = search (arith, grows)

  pub executed_grows : {h v k : ℕ} {state : machine.State} → Executed config machine facts h v k state → Executed config machine facts' h v k state
  executed_grows nothing = nothing
  executed_grows {h} {v} (one_more r before certified known) = one_more r (executed_grows before) (certified_grows v _ r certified) (grows.known h _ known)

  pub replied_grows : {h v n : ℕ} {r : Request} {outcome : ℕ} → Replied config machine facts h v n r outcome → Replied config machine facts' h v n r outcome
  replied_grows p = search (arith, p, executed_grows, certified_grows)

  pub backed_grows : (from to n : ℕ) (r : Request) → Backed config machine facts from to n r → Backed config machine facts' from to n r
  backed_grows from to n r backed = search (arith, backed, certified_grows)

  pub heeded_grows : {v n : ℕ} {r : Request} {x : ℕ} → Heeded config machine facts v n r x → Heeded config machine facts' v n r x
  heeded_grows heeded = search (arith, grows, heeded, backed_grows)

  pub chosen_grows : {h v n : ℕ} {r : Request} → Chosen config machine facts h v n r → Chosen config machine facts' h v n r
  chosen_grows chosen = search (arith, grows, chosen)

  pub closed_before_grows : {h v : ℕ} → ClosedBefore config machine facts h v → ClosedBefore config machine facts' h v
  closed_before_grows c = search (arith, grows, c)

  -- ---- the parts

  module _ {h : ℕ} where
    pub votes_grow : Silent facts facts' h is_vote → {view : ℕ} {phase : Phase} {prepared : ℕ} {requests : List Request}
        → Votes config machine facts h view phase prepared requests → Votes config machine facts' h view phase prepared requests
    votes_grow quiet votes = search (arith, quiet, votes, vote_is config, chosen_grows)

    pub prepares_grow : {view : ℕ} {phase : Phase} {prepared : ℕ} {requests : List Request} {commits : List ℕ}
        → Prepares config machine facts h view phase prepared requests commits → Prepares config machine facts' h view phase prepared requests commits
    prepares_grow prepares = search (arith, grows.known, prepares)

    pub executes_grow : {view : ℕ} {phase : Phase} {executed : ℕ} {state : machine.State}
        → Executes config machine facts h view phase executed state → Executes config machine facts' h view phase executed state
    executes_grow executes = search (arith, executes, executed_grows)

    pub replies_grow : Silent facts facts' h is_reply → {view logged : ℕ} {log : List LogEntry}
        → Replies config machine facts h view logged log → Replies config machine facts' h view logged log
    replies_grow quiet replies = search (arith, quiet, replies, replied_grows)

    pub logs_grow : {view : ℕ} {phase : Phase} {logged : ℕ} {log : List LogEntry}
        → Logs config machine facts h view phase logged log → Logs config machine facts' h view phase logged log
    logs_grow logs = search (arith, logs, certified_grows)

    pub reports_grow : Silent facts facts' h is_reply → Silent facts facts' h is_report → {view : ℕ}
        → Reports config machine facts h view → Reports config machine facts' h view
    reports_grow quiet quiet' reports =
        record {
          none_later = λ w es k. reports.none_later w es (quiet' _ tt k);
          kept = λ v n r outcome w es later a b. reports.kept v n r outcome w es later (quiet _ tt a) (quiet' _ tt b);
        }

    pub closings_grow : Silent facts facts' h is_closing → {view : ℕ} {phase : Phase}
        → Closings config machine facts h view phase → Closings config machine facts' h view phase
    closings_grow quiet closings = search (arith, quiet, closings, closed_before_grows)

    pub holds_grow : {view : ℕ} {held : ℕ → Option (List LogEntry)} {noted : ℕ → Option ℕ}
        → Holds config machine facts h view held noted → Holds config machine facts' h view held noted
    holds_grow holds = search (arith, grows.known, holds, certified_grows)

    pub opens_grow : {view : ℕ} {phase : Phase} {selected : ℕ} {selection : List Request}
        → Opens config machine facts h view phase selected selection → Opens config machine facts' h view phase selected selection
    opens_grow opens = search (arith, opens.chosen, chosen_grows)

-- a replica that made no new statement that matters keeps all
pub inv_grows : {machine : RequestMachine} {facts facts' : Facts machine} → Grows facts facts' → {s : State} {state : machine.State}
    → Silent facts facts' s.number matters → Inv machine facts s state → Inv machine facts' s state
inv_grows grows {s} quiet inv =
    record {
      shape = inv.shape;
      votes = votes_grow s.config grows (λ st t. quiet st (grind arith)) inv.votes;
      prepares = prepares_grow s.config grows inv.prepares;
      executes = executes_grow s.config grows inv.executes;
      replies = replies_grow s.config grows (λ st t. quiet st (grind arith)) inv.replies;
      logs = logs_grow s.config grows inv.logs;
      reports = reports_grow s.config grows (λ st t. quiet st (grind arith)) (λ st t. quiet st (grind arith)) inv.reports;
      closings = closings_grow s.config grows (λ st t. quiet st (grind arith)) inv.closings;
      holds = holds_grow s.config grows inv.holds;
      opens = opens_grow s.config grows inv.opens;
    }

-- and so if it made no new statement but a doubt
pub inv_adds : {machine : RequestMachine} {facts facts' : Facts machine} {s : State} {state : machine.State} {statement : Option Statement}
    → Adds facts facts' s.number statement → Doubting statement → Inv machine facts s state → Inv machine facts' s state
inv_adds adds doubting inv = inv_grows adds.grows (λ st t k. grind (arith, adds.only st k, doubting st)) inv

-- ---- accepted calls

-- a statement, if there is one, is in range
abbrev pub InRange : ClusterConfig → (h : ℕ) → Option Statement → Type 0
InRange config h None = Unit {0}
InRange config h (Some st) = Fits config h st

-- an accepted call of a replica: its statement is in range, and once that is known the new state keeps all
pub record Keeps {machine : RequestMachine} (facts facts' : Facts machine) (s : State) (state : machine.State) (s' : State) (effect : Effect) (statement : Option Statement) : Type 0 where
  pub in_range : InRange s.config s.number statement
  pub keeps : Adds facts facts' s.number statement → Inv machine facts' s' (used machine state effect)
