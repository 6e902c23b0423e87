-- What each fault of a register answers: number, layer and place.
use Rattle.refusals.specs.declared.Refusal.{Refusal}
use Rattle.refusals.specs.declared.Layer.TheVariants.{Register}
use Rattle.seals.specs.declared.fault.RegisterFault.{RegisterFault}
use Rattle.seals.specs.declared.fault.RegisterFault.TheVariants.{Unknown, Full}

-- the refusal of a fault
abbrev pub refusal_of : RegisterFault → Refusal
refusal_of Unknown = record { number = 4; layer = Register; place = 0 }
refusal_of Full = record { number = 5; layer = Register; place = 0 }
