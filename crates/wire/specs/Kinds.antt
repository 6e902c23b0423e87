-- The six kinds of message: the number that stands for each, its rows and its bodies.
use Rattle.std.specs.Prelude.{ℕ, ◌+◌, ◌*◌, Bool, false, cond, ◌&&◌, List, Some, None, Option, ◌==◌, nat_le, codes}
use Rattle.wire.specs.declared.kind.Kind.{Kind}
use Rattle.wire.specs.declared.kind.Kind.TheVariants.{Prepare, Commit, Doubt, Report, Closing, Reply}

-- the number of a kind in a message
abbrev pub kind_number : Kind → ℕ
kind_number Prepare = 1
kind_number Commit = 2
kind_number Doubt = 3
kind_number Report = 4
kind_number Closing = 5
kind_number Reply = 6

-- what prints of a kind
abbrev pub kind_name : Kind → List ℕ
kind_name Prepare = codes "PREPARE"
kind_name Commit = codes "COMMIT"
kind_name Doubt = codes "DOUBT"
kind_name Report = codes "REPORT"
kind_name Closing = codes "CLOSING"
kind_name Reply = codes "REPLY"

-- the kind that a number stands for
abbrev pub kind_of : ℕ → Option Kind
kind_of n =
    cond (n == kind_number Prepare) (Some Prepare)
    (cond (n == kind_number Commit) (Some Commit)
    (cond (n == kind_number Doubt) (Some Doubt)
    (cond (n == kind_number Report) (Some Report)
    (cond (n == kind_number Closing) (Some Closing)
    (cond (n == kind_number Reply) (Some Reply) None)))))

-- the last view and the last number of a request
abbrev pub last_view : ℕ
last_view = 999999

abbrev pub last_number : ℕ
last_number = 96

-- the numbers that a request may have
abbrev pub numbered : ℕ → Bool
numbered n = nat_le 1 n && nat_le n last_number

-- whether a message of the kind may have that many rows
abbrev pub may_count : Kind → ℕ → Bool
may_count Prepare rows = rows == 1
may_count Commit rows = rows == 1
may_count Doubt rows = rows == 0
may_count Report rows = nat_le rows last_number
may_count Closing rows = rows == 1
may_count Reply rows = rows == 1

-- whether a row, counted from 0, may have that number
abbrev pub may_number : Kind → ℕ → ℕ → Bool
may_number Prepare row n = numbered n
may_number Commit row n = numbered n
may_number Doubt row n = false
may_number Report row n = n == row + 1
may_number Closing row n = n == 0
may_number Reply row n = numbered n

-- how many bytes each body has
abbrev pub body_length : Kind → ℕ
body_length Prepare = 14
body_length Commit = 14
body_length Doubt = 0
body_length Report = 18
body_length Closing = 2
body_length Reply = 22

-- how many bytes a message has: its head, and for each row six in the table of contents and the body
abbrev pub message_length : Kind → ℕ → ℕ
message_length kind rows = 7 + rows * (6 + body_length kind)
