-- A machine as small as can be.
use Rattle.std.specs.Prelude.{ℕ}
use Rattle.machines.specs.Machines.{StateMachine}

-- it answers the work before, 0 when fresh
abbrev pub last_work : StateMachine
last_work = record { State = ℕ; fresh = 0; step = λ last work. (work, last) }
