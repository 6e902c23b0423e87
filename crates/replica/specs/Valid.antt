-- What a replica keeps true of its state.
use Rattle.std.specs.Prelude.{◌≡◌, ℕ, ◌+◌, ◌<◌, ◌≤◌, cond, length, slice_index_or}
use Rattle.wire.specs.Configs.{replicas}
use Rattle.wire.specs.Kinds.{last_number, last_view}
use Rattle.protocol.specs.declared.state.State.{State}
use Rattle.protocol.specs.States.{most_replicas, turning, blank_entry}

-- its number is one of the cluster's, and its view exists
abbrev pub Placed : State → Type 0
Placed s = (s.number < replicas s.config) × (s.view ≤ last_view)

-- what is carried out is prepared and in the log
abbrev pub Ordered : State → Type 0
Ordered s = (s.executed ≤ s.prepared) × (s.executed ≤ s.logged)

-- no count passes the last number
abbrev pub Counted : State → Type 0
Counted s = (s.prepared ≤ last_number) × (s.selected ≤ last_number) × (s.logged ≤ last_number)

-- there is a place for each number
abbrev pub Sized : State → Type 0
Sized s = (length s.requests ≡ last_number) × (length s.selection ≡ last_number) × (length s.log ≡ last_number)

-- there is a place for each replica
abbrev pub Peered : State → Type 0
Peered s = (length s.reports ≡ most_replicas) × (length s.closings ≡ most_replicas)

-- the first view in which nothing in the log was carried out
abbrev pub horizon : State → ℕ
horizon s = cond (turning s.phase) s.view (s.view + 1)

-- each entry of the log is of an earlier view
abbrev pub Earlier : State → Type 0
Earlier s = (k : ℕ) → k < s.logged → (slice_index_or s.log k blank_entry).view < horizon s
