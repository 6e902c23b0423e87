-- What each fault of the reader answers: number, layer and place.
use Rattle.refusals.specs.declared.Refusal.{Refusal}
use Rattle.refusals.specs.declared.Layer.TheVariants.{Reader}
use Rattle.wire.specs.declared.fault.ReadFault.{ReadFault}
use Rattle.wire.specs.declared.fault.ReadFault.TheVariants.{Length, UnknownKind, Field, Setting}

abbrev pub refusal_of : ReadFault → Refusal
refusal_of (Length given) = record { number = 1; layer = Reader; place = given }
refusal_of UnknownKind = record { number = 2; layer = Reader; place = 0 }
refusal_of (Field offset) = record { number = 3; layer = Reader; place = offset }
refusal_of Setting = record { number = 3; layer = Reader; place = 0 }
