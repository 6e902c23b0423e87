-- The outcomes of refused works.
use Rattle.std.specs.Prelude.{ℕ, ◌+◌, ◌^◌, Some, None, Option, Ok, Err, Result}
use Rattle.machines.specs.declared.reason.Reason.{Reason}
use Rattle.machines.specs.declared.reason.Reason.TheVariants.{NoSuchWork, TooManyCopies, TooFewCopies, QueueFull, QueueEmpty}

-- the number of a reason
abbrev pub number : Reason → ℕ
number NoSuchWork = 1
number TooManyCopies = 2
number TooFewCopies = 3
number QueueFull = 4
number QueueEmpty = 5

-- the outcome that tells a refusal and its reason
abbrev pub refused : Reason → ℕ
refused reason = 2 ^ 40 + number reason

-- the outcome that tells what came of a work
abbrev pub outcome_of : Result ℕ Reason → ℕ
outcome_of (Ok outcome) = outcome
outcome_of (Err reason) = refused reason

-- a refused work leaves the state
abbrev pub refuses : {State : Type 0} → State → Reason → State × ℕ
refuses state reason = (state, refused reason)

-- a work of the machine is done, any other refused
abbrev pub if_known : {State Work : Type 0} → (State → Work → State × ℕ) → State → Option Work → State × ℕ
if_known does state None = refuses state NoSuchWork
if_known does state (Some work) = does state work
