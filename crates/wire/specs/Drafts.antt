-- What a draft states.
use Rattle.std.specs.Prelude.{ℕ}
use Rattle.wire.specs.declared.draft.Content.{Content}
use Rattle.wire.specs.declared.draft.Content.TheVariants.{Prepare, Commit, Doubt, Report, Closing, Reply}
use Rattle.wire.specs.declared.draft.Draft.{Draft}
use Rattle.wire.specs.Statements.{Statement, prepare, commit, doubt, report, closing, reply}

-- the statement that a content is in a view
abbrev pub stating : ℕ → Content → Statement
stating view (Prepare number request) = prepare view number request
stating view (Commit number request) = commit view number request
stating view Doubt = doubt view
stating view (Report entries) = report view entries.now
stating view (Closing mask) = closing view mask
stating view (Reply number request outcome) = reply view number request outcome

abbrev pub statement_of : Draft → Statement
statement_of d = stating d.view d.content
