-- Writing a message.
use Rattle.std.specs.Prelude.{ℕ, zero, suc, ◌+◌, ◌*◌, ◌^◌, Bool, cond, List, [], ◌∷◌, ◌++◌, length, drop, Some, None, Ok, Err, Option, Result, nat_le, nat_lt}
use Rattle.wire.specs.declared.config.ClusterConfig.{ClusterConfig}
use Rattle.wire.specs.declared.entry.LogEntry.{LogEntry}
use Rattle.wire.specs.declared.fault.ReadFault.{ReadFault}
use Rattle.wire.specs.declared.fault.ReadFault.TheVariants.{Field}
use Rattle.wire.specs.declared.kind.Kind.{Kind}
use Rattle.wire.specs.declared.kind.Kind.TheVariants.{Prepare, Commit, Doubt, Report, Closing, Reply}
use Rattle.wire.specs.declared.request.Request.{Request}
use Rattle.wire.specs.Bytes.{be}
use Rattle.wire.specs.Configs.{replicas}
use Rattle.wire.specs.Kinds.{kind_number, body_length, message_length, numbered, last_view, last_number}
use Rattle.wire.specs.Reading.{with, may_close}
use Rattle.wire.specs.Statements.{Statement, prepare, commit, doubt, report, closing, reply, view_of}

-- kind, replica, view, count of rows
abbrev pub head_bytes : Kind → (replica view rows : ℕ) → List ℕ
head_bytes kind replica view rows = kind_number kind ∷ replica ∷ (be 4 view ++ (rows ∷ []))

-- a row of the table of contents: number and length of the body
abbrev pub row_bytes : Kind → ℕ → List ℕ
row_bytes kind number = be 4 number ++ be 2 (body_length kind)

-- client, stamp, work
abbrev pub request_bytes : Request → List ℕ
request_bytes r = be 2 r.client ++ (be 4 r.stamp ++ be 8 r.work)

-- so many rows of a report's table, numbered on from one
abbrev pub table_bytes : (rows number : ℕ) → List ℕ
table_bytes zero number = []
table_bytes (suc rows) number = row_bytes Report number ++ table_bytes rows (suc number)

-- view, request
abbrev pub entry_bytes : LogEntry → List ℕ
entry_bytes e = be 4 e.view ++ request_bytes e.request

-- the bodies of a report
abbrev pub entries_bytes : List LogEntry → List ℕ
entries_bytes [] = []
entries_bytes (e ∷ es) = entry_bytes e ++ entries_bytes es

-- the message by which a replica makes a statement
abbrev pub writing : ℕ → Statement → List ℕ
writing h (prepare view number r) = head_bytes Prepare h view 1 ++ (row_bytes Prepare number ++ request_bytes r)
writing h (commit view number r) = head_bytes Commit h view 1 ++ (row_bytes Commit number ++ request_bytes r)
writing h (doubt view) = head_bytes Doubt h view 0
writing h (report view es) = head_bytes Report h view (length es) ++ (table_bytes (length es) 1 ++ entries_bytes es)
writing h (closing view mask) = head_bytes Closing h view 1 ++ (row_bytes Closing 0 ++ be 2 mask)
writing h (reply view number r outcome) = head_bytes Reply h view 1 ++ (row_bytes Reply number ++ (request_bytes r ++ be 8 outcome))

-- go on where a field is in its range, else name its offset
abbrev pub field : Bool → ℕ → Option ℕ → Option ℕ
field fits offset rest = cond fits rest (Some offset)

-- the first entry, from an offset on, whose view is not below the report's
abbrev pub late_entry : (view offset : ℕ) → List LogEntry → Option ℕ
late_entry view offset [] = None
late_entry view offset (e ∷ es) = field (nat_lt e.view view) offset (late_entry view (offset + 18) es)

abbrev pub misfit_body : ClusterConfig → Statement → Option ℕ
misfit_body config (prepare view number r) = field (numbered number) 7 None
misfit_body config (commit view number r) = field (numbered number) 7 None
misfit_body config (doubt view) = None
misfit_body config (report view es) = field (nat_le (length es) last_number) 6 (late_entry view (7 + 6 * length es) es)
misfit_body config (closing view mask) = field (may_close config mask) 13 None
misfit_body config (reply view number r outcome) = field (numbered number) 7 (field (nat_lt outcome (2 ^ 64)) 27 None)

-- the offset of the first field outside its range
abbrev pub misfit : ClusterConfig → ℕ → Statement → Option ℕ
misfit config h s = field (nat_lt h (replicas config)) 1 (field (nat_le (view_of s) last_view) 2 (misfit_body config s))

-- the kind of a statement, and how many rows its message has
abbrev pub kind_in : Statement → Kind
kind_in (prepare view number r) = Prepare
kind_in (commit view number r) = Commit
kind_in (doubt view) = Doubt
kind_in (report view es) = Report
kind_in (closing view mask) = Closing
kind_in (reply view number r outcome) = Reply

abbrev pub rows_in : Statement → ℕ
rows_in (prepare view number r) = 1
rows_in (commit view number r) = 1
rows_in (doubt view) = 0
rows_in (report view es) = length es
rows_in (closing view mask) = 1
rows_in (reply view number r outcome) = 1

-- how long its message is
abbrev pub size : Statement → ℕ
size s = message_length (kind_in s) (rows_in s)

-- refused at the offset, if there is one
abbrev pub refused_at : Option ℕ → Result (Unit {0}) ReadFault
refused_at None = Ok tt
refused_at (Some offset) = Err (Field offset)

-- what writing a statement answers: its length, nothing where there is less room, or the first field outside its range
abbrev pub answered : ClusterConfig → ℕ → Statement → (room : ℕ) → Result (Option ℕ) ReadFault
answered config h s room = with (refused_at (misfit config h s)) (λ _. cond (nat_le (size s) room) (Ok (Some (size s))) (Ok None))

-- what the buffer then holds: the message and the later bytes, or all as it was
abbrev pub filled : Result (Option ℕ) ReadFault → (message buffer : List ℕ) → List ℕ
filled (Ok (Some long)) message buffer = message ++ drop long buffer
filled (Ok None) message buffer = buffer
filled (Err fault) message buffer = buffer
