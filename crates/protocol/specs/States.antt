-- The state of a replica: its parts, a new one, and each change that a call makes to one.
use Rattle.std.specs.Prelude.{ℕ, ◌+◌, ◌-◌, max, Bool, true, false, List, ◌++◌, length, take, replicate, Some, None, Ok, Err, Option, Result, ◌==◌, nat_lt, slice_index, slice_index_or, slice_set, if◌then◌else◌}
use Rattle.wire.specs.declared.config.ClusterConfig.{ClusterConfig}
use Rattle.wire.specs.declared.entry.LogEntry.{LogEntry}
use Rattle.wire.specs.declared.fault.ReadFault.TheVariants.{Setting}
use Rattle.wire.specs.declared.request.Request.{Request}
use Rattle.wire.specs.Configs.{replicas}
use Rattle.wire.specs.Kinds.{last_number}
pub use Rattle.wire.specs.Requests.{blank}
use Rattle.groups.specs.Groups.{member, primary}
use Rattle.protocol.specs.declared.fault.ReplicaFault.{ReplicaFault}
use Rattle.protocol.specs.declared.fault.ReplicaFault.TheVariants.{Read}
use Rattle.protocol.specs.declared.state.HeldReport.{HeldReport}
use Rattle.protocol.specs.declared.state.Phase.{Phase}
use Rattle.protocol.specs.declared.state.Phase.TheVariants.{Working, Aside, Turning, Gathering, Closed}
use Rattle.protocol.specs.declared.state.State.{State}

-- ---- phases

abbrev pub working : Phase → Bool
working Working = true
working phase = false

abbrev pub turning : Phase → Bool
turning Turning = true
turning phase = false

abbrev pub gathering : Phase → Bool
gathering Gathering = true
gathering phase = false

abbrev pub closed : Phase → Bool
closed Closed = true
closed phase = false

-- ---- a new replica

-- what fills a place of the log in which no entry stands yet; nothing reads it
abbrev pub blank_entry : LogEntry
blank_entry = record { view = 0; request = blank }

-- the most replicas that a cluster has
abbrev pub most_replicas : ℕ
most_replicas = 5

-- no report is held, no closing noted
abbrev pub none_of_each : {A : Type 0} → List (Option A)
none_of_each = replicate most_replicas None

-- a replica set up anew
abbrev pub new_state : ClusterConfig → (number : ℕ) → State
new_state config number =
    record {
      config = config;
      number = number;
      view = 0;
      phase = if member config 0 number then Working else Aside;
      prepared = 0;
      executed = 0;
      selected = 0;
      logged = 0;
      requests = replicate last_number blank;
      selection = replicate last_number blank;
      log = replicate last_number blank_entry;
      commits_heard = replicate last_number 0;
      reports = none_of_each;
      closings = none_of_each;
    }

-- setting a replica up: its number is one of the cluster's
abbrev pub set_up : ClusterConfig → (number : ℕ) → Result State ReplicaFault
set_up config number = if nat_lt number (replicas config) then Ok (new_state config number) else Err (Read Setting)

-- ---- parts

-- the replica is in the group of its view
abbrev pub active : State → Bool
active s = member s.config s.view s.number

-- the replica is the primary of its view
abbrev pub leads : State → Bool
leads s = s.number == primary s.config s.view

-- the request prepared, and the one selected, as the number after k
abbrev pub prepared_at : State → ℕ → Request
prepared_at s k = slice_index_or s.requests k blank

abbrev pub selected_at : State → ℕ → Request
selected_at s k = slice_index_or s.selection k blank

-- the followers whose commit was heard for the number after k, as a mask
abbrev pub commits_at : State → ℕ → ℕ
commits_at s k = slice_index s.commits_heard k

-- the request to carry out next
abbrev pub next_request : State → Request
next_request s = prepared_at s s.executed

-- the log as far as it is filled
abbrev pub entries : State → List LogEntry
entries s = take s.logged s.log

-- the entries of a report in its place
abbrev pub entries_in : Option HeldReport → Option (List LogEntry)
entries_in None = None
entries_in (Some r) = Some (take r.len r.entries)

-- the report of a replica that is held
abbrev pub held : State → ℕ → Option (List LogEntry)
held s h = entries_in (slice_index_or s.reports h None)

-- the mask of a replica's closing that is noted
abbrev pub noted : State → ℕ → Option ℕ
noted s h = slice_index_or s.closings h None

-- ---- changes

-- the next number is prepared, with these commits heard for it
abbrev pub with_prepared : State → Request → (commits : ℕ) → State
with_prepared s r commits =
    record s { prepared = s.prepared + 1; requests = slice_set s.requests s.prepared r; commits_heard = slice_set s.commits_heard s.prepared commits }

-- these commits are heard for the number after k
abbrev pub with_commits : State → (k commits : ℕ) → State
with_commits s k commits = record s { commits_heard = slice_set s.commits_heard k commits }

-- the next number is carried out and entered in the log
abbrev pub with_executed : State → State
with_executed s =
    record s {
      executed = s.executed + 1;
      logged = max s.logged (s.executed + 1);
      log = slice_set s.log s.executed (record { view = s.view; request = next_request s });
    }

-- another view, phase, reports and closings
abbrev pub changed_to : State → (view : ℕ) → Phase → List (Option HeldReport) → List (Option ℕ) → State
changed_to s view phase reports closings = record s { view = view; phase = phase; reports = reports; closings = closings }

-- turned to the next view
abbrev pub turned : State → State
turned s = changed_to s (s.view + 1) Turning none_of_each none_of_each

-- entries as the report that is held
abbrev pub as_held : List LogEntry → HeldReport
as_held es = record { len = length es; entries = es ++ replicate (last_number - length es) blank_entry }

-- the report of a replica is held
abbrev pub with_report : State → Phase → (h : ℕ) → HeldReport → State
with_report s phase h report = changed_to s s.view phase (slice_set s.reports h (Some report)) s.closings

-- the mask of a replica's closing is noted
abbrev pub with_closing : State → Phase → (h mask : ℕ) → State
with_closing s phase h mask = changed_to s s.view phase s.reports (slice_set s.closings h (Some mask))

-- reported: a member holds its own report and gathers, another steps aside
abbrev pub reported : State → State
reported s =
    if active s then with_report s Gathering s.number (record { len = s.logged; entries = s.log })
    else changed_to s s.view Aside s.reports s.closings

-- opened with so many requests selected
abbrev pub with_selection : State → (selected : ℕ) → List Request → State
with_selection s selected selection =
    record s {
      phase = Working;
      prepared = 0;
      executed = 0;
      selected = selected;
      selection = selection;
      commits_heard = replicate last_number 0;
    }
