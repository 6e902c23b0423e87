-- A message is as long as its kind and its rows make it.
use Rattle.std.proofs.Common.{◌≡◌, ℕ, length, refl, arith, length-append}
use Rattle.wire.specs.Statements.{Statement, prepare, commit, doubt, report, closing, reply}
use Rattle.wire.specs.Writing.{table_bytes, entries_bytes, writing, size}
use Rattle.wire.proofs.Reporting.{table_length, entries_length}

pub length_writing : (h : ℕ) (s : Statement) → length (writing h s) ≡ size s
length_writing h (prepare view number r) = refl
length_writing h (commit view number r) = refl
length_writing h (doubt view) = refl
length_writing h (report view es) =
    omega (arith, length-append (table_bytes (length es) 1) (entries_bytes es), table_length (length es) 1, entries_length es)
length_writing h (closing view mask) = refl
length_writing h (reply view number r outcome) = refl
