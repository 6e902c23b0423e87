-- The group of replicas that serves a view, its primary and its followers.
use Rattle.std.specs.Prelude.{ℕ, ◌%◌, Bool, not, ◌&&◌, List, [], ◌∷◌, length, ◌==◌, slice_index, slice_index_or}
use Rattle.std.specs.List.{list_any}
use Rattle.wire.specs.declared.config.ClusterSize.{ClusterSize}
use Rattle.wire.specs.declared.config.ClusterSize.TheVariants.{Three, Five}
use Rattle.wire.specs.declared.config.ClusterConfig.{ClusterConfig}

-- the groups in the order in which they serve, each with its members in rising order
abbrev pub rows_of : ClusterSize → List (List ℕ)
rows_of Three = (0 ∷ 1 ∷ []) ∷ (0 ∷ 2 ∷ []) ∷ (1 ∷ 2 ∷ []) ∷ []
rows_of Five =
    (0 ∷ 1 ∷ 2 ∷ []) ∷ (0 ∷ 1 ∷ 3 ∷ []) ∷ (0 ∷ 1 ∷ 4 ∷ []) ∷ (0 ∷ 2 ∷ 3 ∷ []) ∷ (0 ∷ 2 ∷ 4 ∷ [])
    ∷ (0 ∷ 3 ∷ 4 ∷ []) ∷ (1 ∷ 2 ∷ 3 ∷ []) ∷ (1 ∷ 2 ∷ 4 ∷ []) ∷ (1 ∷ 3 ∷ 4 ∷ []) ∷ (2 ∷ 3 ∷ 4 ∷ []) ∷ []

-- the rows of a cluster
abbrev pub rows : ClusterConfig → List (List ℕ)
rows c = rows_of c.size

-- the members that serve a view: the rows take turns
abbrev pub group : ClusterConfig → ℕ → List ℕ
group c view = slice_index_or (rows c) (view % length (rows c)) []

-- a replica is among the members
abbrev pub among : List ℕ → ℕ → Bool
among members replica = list_any (λ m. m == replica) members

-- the lowest member leads
abbrev pub leader : List ℕ → ℕ
leader members = slice_index members 0

-- a member that does not lead
abbrev pub follows : List ℕ → ℕ → Bool
follows members replica = among members replica && not (replica == leader members)

-- the replica is active in the view
abbrev pub member : ClusterConfig → ℕ → ℕ → Bool
member c view replica = among (group c view) replica

-- the replica that leads the view
abbrev pub primary : ClusterConfig → ℕ → ℕ
primary c view = leader (group c view)

-- the replica is active in the view and does not lead it
abbrev pub follower : ClusterConfig → ℕ → ℕ → Bool
follower c view replica = follows (group c view) replica
