-- The bodies of a message, as parts of it.
use Rattle.std.specs.Prelude.{ℕ, ◌+◌, ◌*◌, cond, List, take, drop, Some, None, Ok, Err, Option, Result, nat_lt}
use Rattle.wire.specs.declared.body.Body.{Body}
use Rattle.wire.specs.declared.config.ClusterConfig.{ClusterConfig}
use Rattle.wire.specs.declared.fault.ReadFault.{ReadFault}
use Rattle.wire.specs.declared.kind.Kind.{Kind}
use Rattle.wire.specs.Kinds.{body_length}
use Rattle.wire.specs.Reading.{with, reading}
use Rattle.wire.specs.Statements.{Statement}
use Rattle.wire.specs.Writing.{kind_in, rows_in}

-- where the body of a row begins in a message with that many rows
abbrev pub offset_of : Kind → (rows row : ℕ) → ℕ
offset_of kind rows row = 7 + 6 * rows + row * body_length kind

abbrev pub body_offset : Statement → ℕ → ℕ
body_offset s row = offset_of (kind_in s) (rows_in s) row

-- the body of a row: its offset, and so many bytes of the message from there
abbrev pub body_in : ClusterConfig → List ℕ → ℕ → Result (Option (ℕ × List ℕ)) ReadFault
body_in config bs row =
    with (reading config bs) (λ m.
    Ok (cond (nat_lt row (rows_in m.statement))
    (Some (body_offset m.statement row, take (body_length (kind_in m.statement)) (drop (body_offset m.statement row) bs)))
    None))

-- a body, by its offset and bytes
abbrev pub given_out : Option Body → Option (ℕ × List ℕ)
given_out None = None
given_out (Some b) = Some (b.offset, b.bytes.now)

abbrev pub handed : Result (Option Body) ReadFault → Result (Option (ℕ × List ℕ)) ReadFault
handed (Ok o) = Ok (given_out o)
handed (Err fault) = Err fault
