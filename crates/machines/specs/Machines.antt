-- What a machine is.
use Rattle.std.specs.Prelude.{ℕ}

-- states, a fresh one, and a step from a state and a work to a state and an outcome
pub record StateMachine : Type 1 where
  pub State : Type 0
  pub fresh : State
  pub step : State → ℕ → State × ℕ

-- the state after a work
abbrev pub next : (m : StateMachine) → m.State → ℕ → m.State
next m state work = (m.step state work).0

-- the outcome of a work
abbrev pub outcome : (m : StateMachine) → m.State → ℕ → ℕ
outcome m state work = (m.step state work).1
