-- What a call of a replica leaves: the protocol's step, for the answer and for everything that the call may change.
use Rattle.std.specs.Prelude.{◌≡◌, ℕ, List, length, Some, None, Ok, Err, Option, Result}
use Rattle.wire.specs.declared.config.ClusterConfig.{ClusterConfig}
use Rattle.wire.specs.declared.fault.ReadFault.{ReadFault}
use Rattle.wire.specs.Configs.{config_of}
use Rattle.seals.specs.Registers.{RegisterState, after_sealing}
use Rattle.protocol.specs.declared.fault.ReplicaFault.{ReplicaFault}
use Rattle.protocol.specs.declared.fault.ReplicaFault.TheVariants.{Read}
use Rattle.protocol.specs.declared.state.State.{State}
use Rattle.protocol.specs.Replay.{RequestMachine}
use Rattle.protocol.specs.States.{set_up}
use Rattle.protocol.specs.Steps.{Act, Verdict, step}
use Rattle.protocol.specs.Verdicts.{answer_of, state_after, machine_after, message_of, sealed_after, out_after}
use Rattle.replica.specs.declared.replica.Replica.{Replica}

-- setting a replica up in a cluster of so many
abbrev pub set_up_in : Result ClusterConfig ReadFault → (number : ℕ) → Result State ReplicaFault
set_up_in (Ok config) number = set_up config number
set_up_in (Err fault) number = Err (Read fault)

abbrev pub set_up_of : (size number : ℕ) → Result State ReplicaFault
set_up_of size number = set_up_in (config_of size) number

-- the state of a replica that was set up
abbrev pub state_in : {M : Type 0} → Result (Replica M) ReplicaFault → Result State ReplicaFault
state_in (Ok r) = Ok r.state
state_in (Err fault) = Err fault

-- what a call meets, and what it leaves: the states of the replica, of its machine and of the register, and the lent buffer
pub record Scene (Σ : Type 0) : Type 0 where
  pub state : State
  pub machine : Σ
  pub register : RegisterState
  pub out : List ℕ

abbrev pub scene : {M R Σ : Type 0} → (M → Σ) → (R → RegisterState) → Replica M → R → List ℕ → Scene Σ
scene machine_state register_state replica register out =
    record {
      state = replica.state;
      machine = machine_state replica.machine;
      register = register_state register;
      out = out;
    }

-- the register once a message was sealed, if one was
abbrev pub register_with : RegisterState → (h : ℕ) → Option (List ℕ) → RegisterState
register_with register h None = register
register_with register h (Some bytes) = after_sealing register h bytes

-- an answer and a scene are what a verdict makes of the scene before; a refusal leaves everything
pub record Leaves (model : RequestMachine) (verdict : Verdict) (given : Result ℕ ReplicaFault) (c d : Scene model.State) : Type 0 where
  pub answer : given ≡ answer_of verdict
  pub state : d.state ≡ state_after c.state verdict
  pub machine : d.machine ≡ machine_after model c.machine verdict
  pub register : d.register ≡ register_with c.register c.state.number (message_of c.state.number verdict)
  pub sealed : d.register.sealed ≡ sealed_after c.register.sealed c.state.number verdict
  pub out : d.out ≡ out_after c.out c.state.number verdict

-- the verdict on a call
abbrev pub verdict_on : (model : RequestMachine) → Scene model.State → Act → Verdict
verdict_on model c act = step c.register.sealed c.register.fits (length c.out) (λ r. (model.step c.machine r).1) c.state act

-- a call is the protocol's step
abbrev pub Does : (model : RequestMachine) → Act → Result ℕ ReplicaFault → (c d : Scene model.State) → Type 0
Does model act given c d = Leaves model (verdict_on model c act) given c d
