-- Which votes certify a request, and what the register knows of them.
use Rattle.std.specs.Prelude.{ℕ, suc, Bool, List, [], ◌∷◌, Some, None, Option, if◌then◌else◌}
use Rattle.std.specs.List.{list_all}
use Rattle.wire.specs.declared.config.ClusterConfig.{ClusterConfig}
use Rattle.wire.specs.declared.entry.LogEntry.{LogEntry}
use Rattle.wire.specs.declared.request.Request.{Request}
use Rattle.wire.specs.Statements.{Statement}
use Rattle.wire.specs.Writing.{writing}
pub use Rattle.wire.specs.Writing.{size}
use Rattle.groups.specs.Groups.{group}
use Rattle.protocol.specs.Votes.{vote}

-- the message by which a replica makes the statement, kept shut where its bytes do not matter
unfoldable pub message : (h : ℕ) → Statement → List ℕ
message h statement = writing h statement

-- the register knows that a replica made the statement
abbrev pub known : (sealed : ℕ → List ℕ → Bool) → (h : ℕ) → Statement → Bool
known sealed h statement = sealed h (message h statement)

-- every replica of the list passes the test
abbrev pub every : List ℕ → (ℕ → Bool) → Bool
every hs passes = list_all passes hs

-- the certificate of a request as a number of a view: the votes of the view's whole group
abbrev pub certified : ClusterConfig → (sealed : ℕ → List ℕ → Bool) → (view number : ℕ) → Request → Bool
certified config sealed view number r = every (group config view) (λ h. known sealed h (vote config view h number r))

-- the number of the first entry without a certificate, of entries that are numbered from a number on
abbrev pub uncertified : ClusterConfig → (sealed : ℕ → List ℕ → Bool) → (number : ℕ) → List LogEntry → Option ℕ
uncertified config sealed number [] = None
uncertified config sealed number (e ∷ es) =
    if certified config sealed e.view number e.request then uncertified config sealed (suc number) es else Some number
