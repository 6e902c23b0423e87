-- Worked examples of the steps and of a run.
use Rattle.std.specs.Prelude.{◌≡◌, ℕ, ◌+◌, Bool, true, false, List, [], ◌∷◌, map, replicate, Some, None, Ok, Err, Option, Result, refl}
use Rattle.std.specs.List.{range_with_len}
use Rattle.wire.specs.declared.config.ClusterConfig.{ClusterConfig}
use Rattle.wire.specs.declared.config.ClusterSize.TheVariants.{Three}
use Rattle.wire.specs.declared.request.Request.{Request}
use Rattle.wire.specs.Statements.{prepare, commit}
use Rattle.wire.specs.Writing.{writing}
use Rattle.protocol.specs.declared.fault.ReplicaFault.{ReplicaFault}
use Rattle.protocol.specs.declared.fault.ReplicaFault.TheVariants.{NotAllowed, TooFew, NoneLeft}
use Rattle.protocol.specs.declared.state.HeldReport.{HeldReport}
use Rattle.protocol.specs.declared.state.Phase.{Phase}
use Rattle.protocol.specs.declared.state.Phase.TheVariants.{Working, Gathering, Closed}
use Rattle.protocol.specs.declared.state.State.{State}
use Rattle.protocol.specs.Replay.{RequestMachine}
use Rattle.protocol.specs.Runs.{Cluster, Event, call, new_node, does}
use Rattle.protocol.specs.Selecting.{choice}
use Rattle.protocol.specs.States.{new_state, changed_to, none_of_each, as_held}
use Rattle.protocol.specs.Steps.{Verdict, close_step, doubt_step, orders, hears, carries_out}
use Rattle.protocol.specs.Verdicts.{answer_of, state_after}

-- nothing is sealed, and everything fits
abbrev pub unsealed : ℕ → List ℕ → Bool
unsealed h bytes = false

abbrev pub roomy : ℕ → Bool
roomy length = true

abbrev pub three : ClusterConfig
three = record { size = Three }

-- replica 0 of three in a view and a phase, with reports held and closings noted
abbrev pub replica_in : (view : ℕ) → Phase → List (Option HeldReport) → List (Option ℕ) → State
replica_in view phase reports closings = changed_to (new_state three 0) view phase reports closings

-- three replicas: closing with two reports is accepted, with one it is too few
abbrev pub closes_with : List (Option HeldReport) → Result ℕ ReplicaFault
closes_with reports = answer_of (close_step unsealed roomy 15 (replica_in 1 Gathering reports none_of_each))

abbrev pub TwoClose : Type 0
TwoClose = closes_with (Some (as_held []) ∷ None ∷ Some (as_held []) ∷ None ∷ None ∷ []) ≡ Ok 15

abbrev pub OneIsTooFew : Type 0
OneIsTooFew = closes_with (Some (as_held []) ∷ None ∷ None ∷ None ∷ None ∷ []) ≡ Err TooFew

-- a report with one entry
abbrev pub report_of : (view : ℕ) → Request → Option HeldReport
report_of view r = Some (as_held (record { view = view; request = r } ∷ []))

-- entries of the views 2, 4, 2 with the requests a, b, a select b
abbrev pub HighestViewWins : Type 0
HighestViewWins =
    (a b : Request)
    → choice (replica_in 6 Closed (report_of 2 a ∷ report_of 4 b ∷ report_of 2 a ∷ None ∷ None ∷ []) (Some 7 ∷ none_of_each)) 0 ≡ b

-- doubt moves 999,998 to 999,999
abbrev pub doubted : (view : ℕ) → Phase → Verdict
doubted view phase = doubt_step unsealed roomy 7 (replica_in view phase none_of_each none_of_each)

abbrev pub DoubtMoves : Type 0
DoubtMoves = (state_after (new_state three 0) (doubted 999998 Working)).view ≡ 999999

-- and there, gathering, no view is left
abbrev pub NoViewLeft : Type 0
NoViewLeft = answer_of (doubted 999999 Gathering) ≡ Err NoneLeft

-- a machine that adds up the works
abbrev pub adding : RequestMachine
adding = record { State = ℕ; fresh = 0; step = λ total r. (total + r.work, total + r.work) }

-- the cluster after an event that leaves room
abbrev pub then : Cluster ℕ → Event → Cluster ℕ
then c e = record { nodes = (does adding c e).nodes; sealed = (does adding c e).sealed; fits = roomy; out = (does adding c e).out }

-- what a list of events answers
abbrev pub answers : Cluster ℕ → List Event → List (Result ℕ ReplicaFault)
answers c [] = []
answers c (e ∷ es) = (does adding c e).answer ∷ answers (then c e) es

abbrev pub new_three : Cluster ℕ
new_three = record { nodes = map (new_node adding three) (range_with_len 0 3); sealed = unsealed; fits = roomy; out = replicate 64 0 }

-- client 1, stamp 1
abbrev pub forty : Request
forty = record { client = 1; stamp = 1; work = 40; valid = refl }

-- 0 orders, 1 hears the PREPARE, 0 hears the COMMIT; carrying out answers at 0 and at 1, and is not allowed at 2
abbrev pub FirstRequest : Type 0
FirstRequest =
    answers new_three
    (call 0 64 (orders forty)
    ∷ call 1 64 (hears (writing 0 (prepare 0 1 forty)))
    ∷ call 0 64 (hears (writing 1 (commit 0 1 forty)))
    ∷ call 0 64 carries_out
    ∷ call 1 64 carries_out
    ∷ call 2 64 carries_out
    ∷ [])
    ≡ Ok 1 ∷ Ok 27 ∷ Ok 0 ∷ Ok 40 ∷ Ok 40 ∷ Err NotAllowed ∷ []
