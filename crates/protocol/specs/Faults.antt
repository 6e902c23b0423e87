-- What each fault of a replica answers: number, layer and place.
use Rattle.std.specs.Prelude.{ℕ}
use Rattle.refusals.specs.declared.Refusal.{Refusal}
use Rattle.refusals.specs.declared.Layer.TheVariants.{House}
use Rattle.wire.specs.Faults.{refusal_of as reader_refusal}
use Rattle.seals.specs.Faults.{refusal_of as register_refusal}
use Rattle.protocol.specs.declared.fault.ReplicaFault.{ReplicaFault}
use Rattle.protocol.specs.declared.fault.ReplicaFault.TheVariants.{Read, Register, WrongView, NotAllowed, NotEntitled, OutOfTurn, OtherRequest, HeardBefore, TooFew, NoCertificate, ReportNotHeld, NoneLeft, ShortBuffer, NamedReportMissing}

-- a refusal of the replica's own
abbrev pub own : ℕ → ℕ → Refusal
own number place = record { number = number; layer = House; place = place }

abbrev pub refusal_of : ReplicaFault → Refusal
refusal_of (Read fault) = reader_refusal fault
refusal_of (Register fault) = register_refusal fault
refusal_of WrongView = own 6 0
refusal_of NotAllowed = own 7 0
refusal_of NotEntitled = own 8 0
refusal_of OutOfTurn = own 9 0
refusal_of OtherRequest = own 10 0
refusal_of HeardBefore = own 11 0
refusal_of TooFew = own 12 0
refusal_of (NoCertificate entry) = own 13 entry
refusal_of ReportNotHeld = own 14 0
refusal_of NoneLeft = own 15 0
refusal_of ShortBuffer = own 16 0
refusal_of NamedReportMissing = own 17 0
