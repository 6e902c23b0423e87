-- What makes a receipt, whoever tells which statements are known.
use Rattle.std.specs.Prelude.{ℕ, ◌<◌, T}
use Rattle.wire.specs.declared.config.ClusterConfig.{ClusterConfig}
use Rattle.wire.specs.declared.request.Request.{Request}
use Rattle.wire.specs.Configs.{replicas}
use Rattle.wire.specs.Statements.{Statement, reply}
use Rattle.groups.specs.Groups.{member}

-- the replies of a view's whole group, alike in view, number, request and outcome
abbrev pub AlikeReplies : ClusterConfig → (Known : ℕ → Statement → Type 0) → (view number : ℕ) → Request → (outcome : ℕ) → Type 0
AlikeReplies config Known view number r outcome = (h : ℕ) → h < replicas config → T (member config view h) → Known h (reply view number r outcome)
