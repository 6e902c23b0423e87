-- What a verdict leaves: the answer, the state, the machine, what is sealed, and the lent buffer.
use Rattle.std.specs.Prelude.{ℕ, Bool, false, List, ◌++◌, length, drop, Some, None, Ok, Err, Option, Result}
pub use Rattle.seals.specs.Registers.{added, adds}
use Rattle.protocol.specs.declared.fault.ReplicaFault.{ReplicaFault}
use Rattle.protocol.specs.declared.state.State.{State}
use Rattle.protocol.specs.Certificates.{message}
use Rattle.protocol.specs.Replay.{RequestMachine}
use Rattle.protocol.specs.Steps.{Effect, rest, execute, renew, Verdict, refused, accepted}

abbrev pub answer_of : Verdict → Result ℕ ReplicaFault
answer_of (refused fault) = Err fault
answer_of (accepted s effect statement answer) = Ok answer

-- the state that a replica is in after the call
abbrev pub state_after : State → Verdict → State
state_after s (refused fault) = s
state_after s (accepted s' effect statement answer) = s'

abbrev pub effect_of : Verdict → Effect
effect_of (refused fault) = rest
effect_of (accepted s effect statement answer) = effect

-- the state that a machine is in once it was used
abbrev pub used : (machine : RequestMachine) → machine.State → Effect → machine.State
used machine state rest = state
used machine state (execute r) = (machine.step state r).0
used machine state renew = machine.fresh

-- the state that the machine is in after the call
abbrev pub machine_after : (machine : RequestMachine) → machine.State → Verdict → machine.State
machine_after machine state verdict = used machine state (effect_of verdict)

-- the message that replica h writes and seals
abbrev pub message_of : (h : ℕ) → Verdict → Option (List ℕ)
message_of h (refused fault) = None
message_of h (accepted s effect None answer) = None
message_of h (accepted s effect (Some statement) answer) = Some (message h statement)

abbrev pub sealed_with : (ℕ → List ℕ → Bool) → (h : ℕ) → Option (List ℕ) → ℕ → List ℕ → Bool
sealed_with sealed h None = sealed
sealed_with sealed h (Some bytes) = added sealed h bytes

abbrev pub adds_with : (ℕ → List ℕ → Bool) → (ℕ → Bool) → (h : ℕ) → Option (List ℕ) → Bool
adds_with sealed fits h None = false
adds_with sealed fits h (Some bytes) = adds sealed fits h bytes

-- a message at the start of a buffer
abbrev pub written_over : List ℕ → Option (List ℕ) → List ℕ
written_over out None = out
written_over out (Some bytes) = bytes ++ drop (length bytes) out

-- the pairs that are sealed after a call of replica h
abbrev pub sealed_after : (ℕ → List ℕ → Bool) → (h : ℕ) → Verdict → ℕ → List ℕ → Bool
sealed_after sealed h verdict = sealed_with sealed h (message_of h verdict)

-- whether the call of replica h sealed a new pair
abbrev pub new_pair : (ℕ → List ℕ → Bool) → (ℕ → Bool) → (h : ℕ) → Verdict → Bool
new_pair sealed fits h verdict = adds_with sealed fits h (message_of h verdict)

-- the lent buffer after the call of replica h
abbrev pub out_after : List ℕ → (h : ℕ) → Verdict → List ℕ
out_after out h verdict = written_over out (message_of h verdict)
