-- What a message states.
use Rattle.std.specs.Prelude.{ℕ, List}
use Rattle.wire.specs.declared.request.Request.{Request}
use Rattle.wire.specs.declared.entry.LogEntry.{LogEntry}

-- each kind with its view, and what it says there
pub data Statement : Type 0 where
  prepare : (view number : ℕ) → Request → Statement
  commit : (view number : ℕ) → Request → Statement
  doubt : (view : ℕ) → Statement
  report : (view : ℕ) → List LogEntry → Statement
  closing : (view mask : ℕ) → Statement
  reply : (view number : ℕ) → Request → (outcome : ℕ) → Statement

-- a statement with the replica that makes it
pub record Said : Type 0 where
  pub replica : ℕ
  pub statement : Statement

-- the view that a statement is about
abbrev pub view_of : Statement → ℕ
view_of (prepare view number request) = view
view_of (commit view number request) = view
view_of (doubt view) = view
view_of (report view entries) = view
view_of (closing view mask) = view
view_of (reply view number request outcome) = view
