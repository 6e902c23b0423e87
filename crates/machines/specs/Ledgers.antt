-- The ledger: its works, and the step that each is.
use Rattle.std.specs.Prelude.{◌≡◌, Result, ℕ, ◌+◌, ◌-◌, ◌<◌, if◌then◌else◌, ◌&&◌, List, replicate, Some, None, Option, ◌==◌, nat_lt, ok_or, IfOk, slice_index, slice_set}
use Rattle.machines.specs.declared.reason.Reason.{Reason}
use Rattle.machines.specs.declared.reason.Reason.TheVariants.{NoSuchWork, TooManyCopies, TooFewCopies}
use Rattle.machines.specs.declared.ledger_work.LedgerWork.{LedgerWork}
use Rattle.machines.specs.declared.ledger_work.LedgerWork.TheVariants.{Buy, Print, Ask}
use Rattle.machines.specs.Machines.{StateMachine}
use Rattle.machines.specs.Outcomes.{refuses, if_known}
use Rattle.machines.specs.Works.{field, placed}

-- how many pieces there are, numbered from 0
abbrev pub pieces : ℕ
pieces = 32

-- how many copies of a piece may be left at most
abbrev pub most_copies : ℕ
most_copies = 1000000

-- the operations
abbrev pub buying : ℕ
buying = 1

abbrev pub printing : ℕ
printing = 2

abbrev pub asking : ℕ
asking = 3

-- a work's bytes: operation (1), piece (1), zero (2), copies (4)
abbrev pub ledger_bytes : (operation piece copies : ℕ) → ℕ
ledger_bytes operation piece copies = placed 0 1 operation + (placed 1 1 piece + placed 4 4 copies)

-- a work as a number
abbrev pub ledger_written : LedgerWork → ℕ
ledger_written (Buy piece copies) = ledger_bytes buying piece copies
ledger_written (Print piece copies) = ledger_bytes printing piece copies
ledger_written (Ask piece) = ledger_bytes asking piece 0

-- the work of an operation; asking names no copies
abbrev pub operation_on : (operation piece copies : ℕ) → Option LedgerWork
operation_on operation piece copies =
    if operation == buying then Some (Buy piece copies)
    else if operation == printing then Some (Print piece copies)
    else if operation == asking && copies == 0 then Some (Ask piece)
    else None

-- the work that a number is, if it is one
abbrev pub ledger_read : ℕ → Option LedgerWork
ledger_read work =
    if nat_lt (field 1 1 work) pieces && field 2 2 work == 0
    then operation_on (field 0 1 work) (field 1 1 work) (field 4 4 work)
    else None

-- the piece of a work
abbrev pub piece_of : LedgerWork → ℕ
piece_of (Buy piece copies) = piece
piece_of (Print piece copies) = piece
piece_of (Ask piece) = piece

-- a work of a piece that there is
abbrev pub IsOfAPiece : LedgerWork → Type 0
IsOfAPiece work = piece_of work < pieces

-- a piece comes to have so many copies left, which is the outcome
abbrev pub leaves : List ℕ → (piece copies : ℕ) → List ℕ × ℕ
leaves left piece copies = (slice_set left piece copies, copies)

-- a work is read as its bytes say, and names a piece that there is
pub record ReadsLedgerWork (work : ℕ) (r : Result LedgerWork Reason) : Type 0 where
  pub reads_the_bytes : r ≡ ok_or (ledger_read work) NoSuchWork
  pub names_a_piece : IfOk r IsOfAPiece

-- a work is written as its bytes, and reads back if it names a piece that there is
pub record WritesLedgerWork (work : LedgerWork) (n : ℕ) : Type 0 where
  pub writes : n ≡ ledger_written work
  pub reads_back : IsOfAPiece work → ledger_read n ≡ Some work

-- what a work does to the copies left of each piece
abbrev pub ledger_does : List ℕ → LedgerWork → List ℕ × ℕ
ledger_does left (Buy piece copies) =
    if nat_lt most_copies (slice_index left piece + copies)
    then refuses left TooManyCopies
    else leaves left piece (slice_index left piece + copies)
ledger_does left (Print piece copies) =
    if nat_lt (slice_index left piece) copies
    then refuses left TooFewCopies
    else leaves left piece (slice_index left piece - copies)
ledger_does left (Ask piece) = (left, slice_index left piece)

-- the ledger: copies left of each piece, none when fresh
abbrev pub ledger : StateMachine
ledger =
    record {
      State = List ℕ;
      fresh = replicate pieces 0;
      step = λ left work. if_known ledger_does left (ledger_read work);
    }
