-- The two laws of the wire format.
use Rattle.std.specs.Prelude.{◌≡◌, ℕ, List, take, Some, None, Ok, Err, Option, Result}
use Rattle.wire.specs.declared.config.ClusterConfig.{ClusterConfig}
use Rattle.wire.specs.declared.fault.ReadFault.{ReadFault}
use Rattle.wire.specs.Bytes.{Bytes}
use Rattle.wire.specs.Reading.{reading}
use Rattle.wire.specs.Statements.{Statement, Said}
use Rattle.wire.specs.Writing.{writing, misfit}

-- a statement whose fields are in their ranges
abbrev pub Fits : ClusterConfig → ℕ → Statement → Type 0
Fits config h s = misfit config h s ≡ None

-- what is written reads back the same
abbrev pub ReadsBack : ClusterConfig → ℕ → Statement → Type 0
ReadsBack config h s = reading config (writing h s) ≡ Ok (record { replica = h; statement = s })

-- bytes that read as a message are its writing, and that of no other
pub record IsWriting (config : ClusterConfig) (bs : List ℕ) (m : Said) : Type 0 where
  pub written : bs ≡ writing m.replica m.statement
  pub fits : Fits config m.replica m.statement
  pub alone : (h : ℕ) (s : Statement) → Fits config h s → bs ≡ writing h s → m ≡ record { replica = h; statement = s }

-- for every config: what fits and is written reads back
abbrev pub WrittenReads : Type 0
WrittenReads = (config : ClusterConfig) (h : ℕ) (s : Statement) → Fits config h s → ReadsBack config h s

-- for every config: bytes that read are the writing of exactly one message
abbrev pub ReadIsWritten : Type 0
ReadIsWritten = (config : ClusterConfig) (bs : List ℕ) (m : Said) → Bytes bs → reading config bs ≡ Ok m → IsWriting config bs m

-- what a write answered with a length is the start of the buffer, and reads back as the statement
abbrev pub Wrote : ClusterConfig → ℕ → Statement → Result (Option ℕ) ReadFault → List ℕ → Type 0
Wrote config h s (Ok (Some long)) buffer = reading config (take long buffer) ≡ Ok (record { replica = h; statement = s })
Wrote config h s (Ok None) buffer = Unit {0}
Wrote config h s (Err fault) buffer = Unit {0}
