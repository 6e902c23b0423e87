-- The eight calls of a replica: for each the refusal, or the new state, what the machine does, what is sealed and the answer.
use Rattle.std.specs.Prelude.{ℕ, ◌+◌, ◌-◌, ◌^◌, Bool, false, not, ◌&&◌, ◌||◌, List, is_some, Some, None, Ok, Err, Option, Result, ◌==◌, bit_or, nat_le, nat_lt, if◌then◌else◌}
use Rattle.wire.specs.declared.entry.LogEntry.{LogEntry}
use Rattle.wire.specs.declared.fault.ReadFault.{ReadFault}
use Rattle.wire.specs.declared.request.Request.{Request}
use Rattle.wire.specs.Configs.{faults}
use Rattle.wire.specs.Counting.{count, names}
use Rattle.wire.specs.Kinds.{last_view, last_number}
use Rattle.wire.specs.Reading.{reading}
use Rattle.wire.specs.Statements.{Statement, Said, prepare, commit, doubt, report, closing, reply, view_of}
use Rattle.groups.specs.Groups.{group, member, primary, follower}
use Rattle.seals.specs.declared.fault.RegisterFault.TheVariants.{Unknown, Full}
use Rattle.protocol.specs.declared.fault.ReplicaFault.{ReplicaFault}
use Rattle.protocol.specs.declared.fault.ReplicaFault.TheVariants.{Read, Register, WrongView, NotAllowed, NotEntitled, OutOfTurn, OtherRequest, HeardBefore, TooFew, NoCertificate, ReportNotHeld, NoneLeft, ShortBuffer, NamedReportMissing}
use Rattle.protocol.specs.declared.state.Phase.TheVariants.{Closed}
use Rattle.protocol.specs.declared.state.State.{State}
use Rattle.protocol.specs.States.{working, turning, gathering, closed, active, leads, prepared_at, selected_at, commits_at, next_request, entries, noted, with_prepared, with_commits, with_executed, turned, as_held, with_report, with_closing, reported, with_selection}
use Rattle.protocol.specs.Certificates.{size, every, uncertified}
use Rattle.protocol.specs.Selecting.{peers, holds, held_mask, holds_all, named, selects, choices}

-- what a call has the machine do: nothing, a request's work, or start afresh
pub data Effect : Type 0 where
  rest : Effect
  execute : Request → Effect
  renew : Effect

-- what a call comes to: a refusal, which changes nothing; or the new state, the effect on the machine, the statement that is sealed, and the answer
pub data Verdict : Type 0 where
  refused : ReplicaFault → Verdict
  accepted : State → Effect → Option Statement → (answer : ℕ) → Verdict

-- go on where the test passes, else refuse
abbrev pub need : Bool → ReplicaFault → Verdict → Verdict
need passes fault verdict = if passes then verdict else refused fault

-- the same request
abbrev pub same : Request → Request → Bool
same a b = a.client == b.client && (a.stamp == b.stamp && a.work == b.work)

-- ---- hearing

-- phase and role allow the replica to hear the statement
abbrev pub allows : State → Statement → Bool
allows s (prepare view number r) = working s.phase && follower s.config s.view s.number
allows s (commit view number r) = working s.phase
allows s (doubt view) = not (turning s.phase)
allows s (report view es) = active s && (turning s.phase || (gathering s.phase || closed s.phase))
allows s (closing view mask) = gathering s.phase || closed s.phase
allows s (reply view number r outcome) = false

-- replica g may say this to the replica
abbrev pub entitles : State → (g : ℕ) → Statement → Bool
entitles s g (prepare view number r) = g == primary s.config s.view
entitles s g (commit view number r) = follower s.config s.view g && not (g == s.number)
entitles s g (doubt view) = member s.config s.view g && not (g == s.number)
entitles s g (report view es) = not (g == s.number)
entitles s g (closing view mask) = member s.config s.view g && not (g == s.number)
entitles s g (reply view number r outcome) = false

-- every follower's commit was heard for the number after k
abbrev pub all_heard : State → ℕ → Bool
all_heard s k = every (group s.config s.view) (λ g. (g == primary s.config s.view) || names (commits_at s k) g)

-- each member of the group has its closing noted
abbrev pub all_noted : State → Bool
all_noted s = every (group s.config s.view) (λ g. is_some (noted s g))

-- the calls, by which pairs are sealed, which lengths fit, and how many bytes the lent buffer has
module _ (sealed : ℕ → List ℕ → Bool) (fits : ℕ → Bool) (room : ℕ) where
  -- the end of a call that seals: the buffer takes the message, and the register has room for it
  abbrev pub seals : Statement → State → Effect → (answer : ℕ) → Verdict
  seals statement s effect answer =
      need (nat_le (size statement) room) ShortBuffer
      (need (fits (size statement)) (Register Full)
      (accepted s effect (Some statement) answer))

  -- a request is prepared as the next number
  abbrev pub prepare_step : State → Request → Verdict
  prepare_step s r =
      need (nat_lt s.prepared last_number) NoneLeft
      (seals (prepare s.view (s.prepared + 1) r) (with_prepared s r 0) rest (s.prepared + 1))

  abbrev pub order_step : State → Request → Verdict
  order_step s r =
      need (working s.phase && leads s) NotAllowed
      (need (nat_le s.selected s.prepared) OutOfTurn
      (prepare_step s r))

  abbrev pub repeat_step : State → Verdict
  repeat_step s =
      need (working s.phase && leads s) NotAllowed
      (need (nat_lt s.prepared s.selected) OutOfTurn
      (prepare_step s (selected_at s s.prepared)))

  -- the next number is prepared and committed to; up to the last number selected only the selected request will do
  abbrev pub hear_prepare : State → (number : ℕ) → Request → Verdict
  hear_prepare s number r =
      need (number == s.prepared + 1) OutOfTurn
      (need (nat_le s.selected s.prepared || same r (selected_at s s.prepared)) OtherRequest
      (seals (commit s.view number r) (with_prepared s r (2 ^ s.number)) rest (size (commit s.view number r))))

  abbrev pub hear_commit : State → (g number : ℕ) → Request → Verdict
  hear_commit s g number r =
      need (nat_le number s.prepared) OutOfTurn
      (need (same r (prepared_at s (number - 1))) OtherRequest
      (need (not (names (commits_at s (number - 1)) g)) HeardBefore
      (accepted (with_commits s (number - 1) (bit_or (commits_at s (number - 1)) (2 ^ g))) rest None 0)))

  abbrev pub hear_doubt : State → Verdict
  hear_doubt s = need (nat_lt s.view last_view) NoneLeft (accepted (turned s) rest None 0)

  -- a report is held unless an entry lacks its certificate
  abbrev pub hold : State → (g : ℕ) → List LogEntry → Option ℕ → Verdict
  hold s g es (Some number) = refused (NoCertificate number)
  hold s g es None = accepted (with_report s s.phase g (as_held es)) rest None 0

  abbrev pub hear_report : State → (g : ℕ) → List LogEntry → Verdict
  hear_report s g es = need (not (holds s g)) HeardBefore (hold s g es (uncertified s.config sealed 1 es))

  abbrev pub hear_closing : State → (g mask : ℕ) → Verdict
  hear_closing s g mask =
      need (not (is_some (noted s g))) HeardBefore
      (need (holds_all s (names mask)) ReportNotHeld
      (accepted (with_closing s s.phase g mask) rest None 0))

  -- the checks of each kind's own
  abbrev pub hear_kind : State → (g : ℕ) → Statement → Verdict
  hear_kind s g (prepare view number r) = hear_prepare s number r
  hear_kind s g (commit view number r) = hear_commit s g number r
  hear_kind s g (doubt view) = hear_doubt s
  hear_kind s g (report view es) = hear_report s g es
  hear_kind s g (closing view mask) = hear_closing s g mask
  hear_kind s g (reply view number r outcome) = refused NotAllowed

  -- a message that was read; its seal is asked for the bytes as they came
  abbrev pub hear_read : State → List ℕ → Result Said ReadFault → Verdict
  hear_read s bytes (Err fault) = refused (Read fault)
  hear_read s bytes (Ok said) =
      need (view_of said.statement == s.view) WrongView
      (need (allows s said.statement) NotAllowed
      (need (entitles s said.replica said.statement) NotEntitled
      (need (sealed said.replica bytes) (Register Unknown)
      (hear_kind s said.replica said.statement))))

  abbrev pub hear_step : State → List ℕ → Verdict
  hear_step s bytes = hear_read s bytes (reading s.config bytes)

  -- by the outcome that the machine would give to a request
  abbrev pub carry_out_step : (outcome : Request → ℕ) → State → Verdict
  carry_out_step outcome s =
      need (working s.phase) NotAllowed
      (need (nat_lt s.executed s.prepared) OutOfTurn
      (need (all_heard s s.executed) TooFew
      (seals (reply s.view (s.executed + 1) (next_request s) (outcome (next_request s))) (with_executed s) (execute (next_request s)) (outcome (next_request s)))))

  abbrev pub doubt_step : State → Verdict
  doubt_step s =
      need (working s.phase || (gathering s.phase || closed s.phase)) NotAllowed
      (need (nat_lt s.view last_view) NoneLeft
      (seals (doubt s.view) (turned s) rest (size (doubt s.view))))

  abbrev pub report_step : State → Verdict
  report_step s =
      need (turning s.phase) NotAllowed
      (seals (report s.view (entries s)) (reported s) rest (size (report s.view (entries s))))

  abbrev pub close_step : State → Verdict
  close_step s =
      need (gathering s.phase) NotAllowed
      (need (nat_le (faults s.config + 1) (count (peers s) (holds s))) TooFew
      (seals (closing s.view (held_mask s)) (with_closing s Closed s.number (held_mask s)) rest (size (closing s.view (held_mask s)))))

  abbrev pub open_step : State → Verdict
  open_step s =
      need (closed s.phase) NotAllowed
      (need (all_noted s) TooFew
      (need (holds_all s (named s)) NamedReportMissing
      (accepted (with_selection s (selects s) (choices s)) renew None (selects s))))

-- a call of a replica, with its argument
pub data Act : Type 0 where
  orders : Request → Act
  repeats : Act
  hears : List ℕ → Act
  carries_out : Act
  doubts : Act
  reports : Act
  closes : Act
  opens : Act

-- what a call comes to
abbrev pub step : (sealed : ℕ → List ℕ → Bool) (fits : ℕ → Bool) (room : ℕ) (outcome : Request → ℕ) → State → Act → Verdict
step sealed fits room outcome s (orders r) = order_step sealed fits room s r
step sealed fits room outcome s repeats = repeat_step sealed fits room s
step sealed fits room outcome s (hears bytes) = hear_step sealed fits room s bytes
step sealed fits room outcome s carries_out = carry_out_step sealed fits room outcome s
step sealed fits room outcome s doubts = doubt_step sealed fits room s
step sealed fits room outcome s reports = report_step sealed fits room s
step sealed fits room outcome s closes = close_step sealed fits room s
step sealed fits room outcome s opens = open_step sealed fits room s
