-- What a machine does with a list of requests.
use Rattle.std.specs.Prelude.{ℕ, List, [], ◌∷◌}
use Rattle.wire.specs.declared.request.Request.{Request}
use Rattle.machines.specs.Machines.{StateMachine}

-- states, a fresh one, and a step from a state and a request to a state and an outcome
pub record RequestMachine : Type 1 where
  pub State : Type 0
  pub fresh : State
  pub step : State → Request → State × ℕ

-- the machine that does the work of each request
abbrev pub of_works : StateMachine → RequestMachine
of_works machine = record { State = machine.State; fresh = machine.fresh; step = λ state request. machine.step state request.work }

-- the state in which requests leave a machine, one after another
abbrev pub replay : (machine : RequestMachine) → machine.State → List Request → machine.State
replay machine state [] = state
replay machine state (request ∷ requests) = replay machine (machine.step state request).0 requests

-- the state of a fresh machine after a list of requests
abbrev pub after : (machine : RequestMachine) → List Request → machine.State
after machine requests = replay machine machine.fresh requests

-- the outcome that a fresh machine gives to a request after a list of others
abbrev pub outcome_of : (machine : RequestMachine) → (before : List Request) → Request → ℕ
outcome_of machine before request = (machine.step (after machine before) request).1
