-- What the register shows of a statement, and receipts.
use Rattle.std.specs.Prelude.{ℕ, Bool, T, List}
use Rattle.wire.specs.declared.config.ClusterConfig.{ClusterConfig}
use Rattle.wire.specs.declared.request.Request.{Request}
use Rattle.wire.specs.Laws.{Fits}
use Rattle.wire.specs.Statements.{Statement}
use Rattle.protocol.specs.Certificates.{known}
use Rattle.protocol.specs.Replies.{AlikeReplies}

-- a replica made a statement: its fields are in their ranges, and the replica sealed its message
abbrev pub Made : ClusterConfig → (sealed : ℕ → List ℕ → Bool) → (h : ℕ) → Statement → Type 0
Made config sealed h statement = Fits config h statement × T (known sealed h statement)

-- a receipt, by the sealed pairs alone: replies alike from the view's whole group
abbrev pub Receipt : ClusterConfig → (sealed : ℕ → List ℕ → Bool) → (view number : ℕ) → Request → (outcome : ℕ) → Type 0
Receipt config sealed = AlikeReplies config (Made config sealed)
