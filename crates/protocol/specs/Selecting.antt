-- What a replica selects at opening: from the reports that the noted closings name, for each number the request with the highest entry view.
use Rattle.std.specs.Prelude.{ℕ, zero, suc, ◌^◌, max, Bool, false, not, ◌||◌, List, map, length, is_some, Some, None, Option, bit_or, nat_lt, slice_index_or, if◌then◌else◌}
use Rattle.std.specs.List.{range_with_len}
use Rattle.wire.specs.declared.entry.LogEntry.{LogEntry}
use Rattle.wire.specs.declared.request.Request.{Request}
use Rattle.wire.specs.Configs.{replicas}
use Rattle.wire.specs.Counting.{names}
use Rattle.wire.specs.Kinds.{last_number}
use Rattle.groups.specs.Counting.{all_below}
use Rattle.protocol.specs.declared.state.State.{State}
use Rattle.protocol.specs.States.{blank, blank_entry, held, noted}

-- some number below n passes the test
abbrev pub any_below : ℕ → (ℕ → Bool) → Bool
any_below zero passes = false
any_below (suc n) passes = passes n || any_below n passes

-- the mask of the numbers below n that pass the test
abbrev pub mask_of : ℕ → (ℕ → Bool) → ℕ
mask_of zero passes = 0
mask_of (suc n) passes = if passes n then bit_or (mask_of n passes) (2 ^ n) else mask_of n passes

-- how many replicas there are in the cluster of a replica
abbrev pub peers : State → ℕ
peers s = replicas s.config

-- the report of a replica is held
abbrev pub holds : State → ℕ → Bool
holds s h = is_some (held s h)

-- the mask of the reports that are held
abbrev pub held_mask : State → ℕ
held_mask s = mask_of (peers s) (holds s)

-- each replica that passes the test has its report held
abbrev pub holds_all : State → (ℕ → Bool) → Bool
holds_all s passes = all_below (peers s) (λ h. not (passes h) || holds s h)

abbrev pub mask_names : Option ℕ → ℕ → Bool
mask_names None h = false
mask_names (Some mask) h = names mask h

-- a closing that is noted names the replica
abbrev pub named : State → ℕ → Bool
named s h = any_below (peers s) (λ g. mask_names (noted s g) h)

-- the report of a replica that counts
abbrev pub counts : State → ℕ → Option (List LogEntry)
counts s h = if named s h then held s h else None

abbrev pub length_of : Option (List LogEntry) → ℕ
length_of None = 0
length_of (Some es) = length es

-- the entry after the first k of a report
abbrev pub entry_at : Option (List LogEntry) → ℕ → Option LogEntry
entry_at None k = None
entry_at (Some es) k = if nat_lt k (length es) then Some (slice_index_or es k blank_entry) else None

-- the largest value of the numbers below n
abbrev pub longest : ℕ → (ℕ → ℕ) → ℕ
longest zero f = 0
longest (suc n) f = max (longest n f) (f n)

-- the entry with the higher view, of equals the first
abbrev pub later : Option LogEntry → Option LogEntry → Option LogEntry
later None other = other
later (Some e) None = Some e
later (Some e) (Some other) = if nat_lt e.view other.view then Some other else Some e

-- the entry with the highest view of the numbers below n, of equals the one of the lowest number
abbrev pub latest : ℕ → (ℕ → Option LogEntry) → Option LogEntry
latest zero f = None
latest (suc n) f = later (latest n f) (f n)

abbrev pub request_of : Option LogEntry → Request
request_of None = blank
request_of (Some e) = e.request

-- how many numbers are selected: as many as the longest report has
abbrev pub selects : State → ℕ
selects s = longest (peers s) (λ h. length_of (counts s h))

-- the request selected as the number after k
abbrev pub choice : State → ℕ → Request
choice s k = request_of (latest (peers s) (λ h. entry_at (counts s h) k))

-- the whole selection
abbrev pub choices : State → List Request
choices s = map (choice s) (range_with_len 0 last_number)
