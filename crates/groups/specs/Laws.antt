-- The laws of the groups, for every cluster and every view.
use Rattle.std.specs.Prelude.{◌≡◌, ℕ, ◌+◌, ◌<◌, ◌≤◌, Bool, T, length}
use Rattle.wire.specs.declared.config.ClusterConfig.{ClusterConfig}
use Rattle.wire.specs.Configs.{faults, replicas}
use Rattle.groups.specs.Counting.{count, alike}
use Rattle.groups.specs.Groups.{rows, member, primary}

-- each group has t + 1 of the n replicas
abbrev pub Sized : Type 0
Sized = (c : ClusterConfig) (view : ℕ) → count (replicas c) (member c view) ≡ faults c + 1

-- each member of a group is one of the n replicas
abbrev pub Within : Type 0
Within = (c : ClusterConfig) (view replica : ℕ) → T (member c view replica) → replica < replicas c

-- the primary is one of the group
abbrev pub Led : Type 0
Led = (c : ClusterConfig) (view : ℕ) → T (member c view (primary c view))

-- any t + 1 of the n replicas meet any group
abbrev pub Met : Type 0
Met = (c : ClusterConfig) (view : ℕ) (set : ℕ → Bool) → faults c + 1 ≤ count (replicas c) set
    → (h : ℕ) × (h < replicas c) × T (set h) × T (member c view h)

-- any two groups share a member
abbrev pub Shared : Type 0
Shared = (c : ClusterConfig) (view other : ℕ) → (h : ℕ) × (h < replicas c) × T (member c view h) × T (member c other h)

-- each set of t + 1 of the n replicas is the group of exactly one row
abbrev pub Complete : Type 0
Complete = (c : ClusterConfig) (set : ℕ → Bool) → count (replicas c) set ≡ faults c + 1
    → count (length (rows c)) (λ row. alike (replicas c) (member c row) set) ≡ 1
