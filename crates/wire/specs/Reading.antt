-- Reading a message: the first refusal in the order head length, kind, count of rows, whole length, fields in byte order; else what the message states.
use Rattle.std.specs.Prelude.{ℕ, zero, suc, ◌+◌, ◌*◌, ◌^◌, Bool, cond, ◌&&◌, List, [], ◌∷◌, length, take, drop, Some, None, Ok, Err, Option, Result, ◌==◌, nat_le, nat_lt, slice_index}
use Rattle.std.specs.Option.{ok_or}
use Rattle.wire.specs.declared.config.ClusterConfig.{ClusterConfig}
use Rattle.wire.specs.declared.entry.LogEntry.{LogEntry}
use Rattle.wire.specs.declared.fault.ReadFault.{ReadFault}
use Rattle.wire.specs.declared.fault.ReadFault.TheVariants.{Length, UnknownKind, Field}
use Rattle.wire.specs.declared.kind.Kind.{Kind}
use Rattle.wire.specs.declared.kind.Kind.TheVariants.{Prepare, Commit, Doubt, Report, Closing, Reply}
use Rattle.wire.specs.declared.request.Request.{Request}
use Rattle.wire.specs.Bytes.{num}
use Rattle.wire.specs.Configs.{replicas, faults}
use Rattle.wire.specs.Counting.{count, names}
use Rattle.wire.specs.Kinds.{kind_of, may_count, may_number, body_length, message_length, last_view}
use Rattle.wire.specs.Requests.{request}
use Rattle.wire.specs.Statements.{Statement, Said, prepare, commit, doubt, report, closing, reply}

-- go on where a test passes, else refuse
abbrev pub check : {A : Type 0} → Bool → ReadFault → Result A ReadFault → Result A ReadFault
check passes fault rest = cond passes rest (Err fault)

-- go on with what was read
abbrev pub with : {A B : Type 0} → Result A ReadFault → (A → Result B ReadFault) → Result B ReadFault
with (Ok a) rest = rest a
with (Err fault) rest = Err fault

-- whether a reading is refused, without what was read
abbrev pub checked : {A : Type 0} → Result A ReadFault → Result (Unit {0}) ReadFault
checked (Ok a) = Ok tt
checked (Err fault) = Err fault

-- so many parts of one length, each read with its row, counted on from one
abbrev pub parts_read : {A : Type 0} → (part : ℕ) → (ℕ → List ℕ → Result A ReadFault) → (rows row : ℕ) → List ℕ → Result (List A) ReadFault
parts_read part read zero row bs = Ok []
parts_read part read (suc rows) row bs = with (read row bs) (λ a. with (parts_read part read rows (suc row) (drop part bs)) (λ rest. Ok (a ∷ rest)))

-- a row of the table of contents, counted from 0: number and length as the kind has them
abbrev pub row_read : Kind → (row : ℕ) → List ℕ → Result (Unit {0}) ReadFault
row_read kind row bs =
    check (may_number kind row (num bs 0 4)) (Field (7 + 6 * row))
    (check (num bs 4 2 == body_length kind) (Field (11 + 6 * row)) (Ok tt))

-- a request, whose first byte is at a place of the message
abbrev pub request_read : ℕ → List ℕ → Result Request ReadFault
request_read place bs = ok_or (request (num bs 0 2) (num bs 2 4) (num bs 6 8)) (Field place)

-- an entry of a report for a view: the entry's view lies below
abbrev pub entry_read : (view place : ℕ) → List ℕ → Result LogEntry ReadFault
entry_read view place bs =
    check (nat_lt (num bs 0 4) view) (Field place)
    (with (request_read (place + 4) (drop 4 bs)) (λ r. Ok (record { view = num bs 0 4; request = r })))

-- the entries of a report for a view, of which the first is at a place
abbrev pub entries_read : (view rows place : ℕ) → List ℕ → Result (List LogEntry) ReadFault
entries_read view rows place bs = parts_read 18 (λ row. entry_read view (place + 18 * row)) rows 0 bs

-- a mask names at least t + 1 replicas, and none from n up
abbrev pub may_close : ClusterConfig → ℕ → Bool
may_close config mask = nat_lt mask (2 ^ replicas config) && nat_le (faults config + 1) (count (replicas config) (names mask))

-- what a REPLY, a CLOSING and a REPORT state; the number of a single row stands in the contents
abbrev pub replied : (view : ℕ) → (contents bodies : List ℕ) → Result Statement ReadFault
replied view contents bs = with (request_read 13 bs) (λ r. Ok (reply view (num contents 0 4) r (num bs 14 8)))

abbrev pub closed : ClusterConfig → (view : ℕ) → List ℕ → Result Statement ReadFault
closed config view bs = check (may_close config (num bs 0 2)) (Field 13) (Ok (closing view (num bs 0 2)))

abbrev pub reported : (view rows : ℕ) → List ℕ → Result Statement ReadFault
reported view rows bs = with (entries_read view rows (7 + 6 * rows) bs) (λ es. Ok (report view es))

-- what the bodies state, by kind
abbrev pub bodies_read : ClusterConfig → Kind → (view rows : ℕ) → (contents bodies : List ℕ) → Result Statement ReadFault
bodies_read config Prepare view rows contents bs = with (request_read 13 bs) (λ r. Ok (prepare view (num contents 0 4) r))
bodies_read config Commit view rows contents bs = with (request_read 13 bs) (λ r. Ok (commit view (num contents 0 4) r))
bodies_read config Doubt view rows contents bs = Ok (doubt view)
bodies_read config Report view rows contents bs = reported view rows bs
bodies_read config Closing view rows contents bs = closed config view bs
bodies_read config Reply view rows contents bs = replied view contents bs

-- the statement of a replica
abbrev pub stated : ℕ → Result Statement ReadFault → Result Said ReadFault
stated replica r = with r (λ s. Ok (record { replica = replica; statement = s }))

-- the fields in byte order: head, table of contents, bodies
abbrev pub fields_read : ClusterConfig → Kind → (replica view rows : ℕ) → (contents bodies : List ℕ) → Result Said ReadFault
fields_read config kind replica view rows contents bodies =
    check (nat_lt replica (replicas config)) (Field 1)
    (check (nat_le view last_view) (Field 2)
    (with (parts_read 6 (row_read kind) rows 0 contents) (λ _.
    stated replica (bodies_read config kind view rows contents bodies))))

-- the table of contents and the bodies of a message with that many rows
abbrev pub contents_in : ℕ → List ℕ → List ℕ
contents_in rows bs = take (6 * rows) (drop 7 bs)

abbrev pub bodies_in : ℕ → List ℕ → List ℕ
bodies_in rows bs = drop (6 * rows) (drop 7 bs)

-- a message of a kind, with that many rows
abbrev pub kind_read : ClusterConfig → (rows : ℕ) → List ℕ → Option Kind → Result Said ReadFault
kind_read config rows bs None = Err UnknownKind
kind_read config rows bs (Some kind) =
    check (may_count kind rows) (Field 6)
    (check (length bs == message_length kind rows) (Length (length bs))
    (fields_read config kind (slice_index bs 1) (num bs 2 4) rows (contents_in rows bs) (bodies_in rows bs)))

-- what a list of bytes states, or the first refusal
abbrev pub reading : ClusterConfig → List ℕ → Result Said ReadFault
reading config bs = check (nat_le 7 (length bs)) (Length (length bs)) (kind_read config (slice_index bs 6) bs (kind_of (slice_index bs 0)))
