-- Votes: how the members of a group agree on a request for a number.
use Rattle.std.specs.Prelude.{ℕ, ◌==◌, if◌then◌else◌}
use Rattle.wire.specs.declared.config.ClusterConfig.{ClusterConfig}
use Rattle.wire.specs.declared.request.Request.{Request}
use Rattle.wire.specs.Statements.{Statement, prepare, commit}
use Rattle.groups.specs.Groups.{primary}

-- what a member of a view's group states for a number: PREPARE if it is the primary, else COMMIT
abbrev pub vote : ClusterConfig → (view replica number : ℕ) → Request → Statement
vote config view replica number request =
    if replica == primary config view then prepare view number request else commit view number request
