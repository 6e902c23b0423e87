-- A message that fits its ranges and its buffer is written whole, at the start of the buffer.
use Rattle.std.proofs.Common.{◌≡◌, ℕ, ◌≤◌, true, List, ◌++◌, length, take, drop, Some, Ok, Option, Result, refl, ap, ◌∙◌}
use Rattle.std.proofs.lemmas.List.{take_at}
use Rattle.std.proofs.lemmas.Bool.{le-leb}
use Rattle.wire.specs.declared.config.ClusterConfig.{ClusterConfig}
use Rattle.wire.specs.declared.fault.ReadFault.{ReadFault}
use Rattle.wire.specs.Laws.{Fits}
use Rattle.wire.specs.Statements.{Statement}
use Rattle.wire.specs.Writing.{writing, size, answered, filled}
use Rattle.wire.proofs.Sizes.{length_writing}
use Rattle.seals.specs.Registers.{RegisterState, after_sealing}
use Rattle.seals.proofs.Sealing.{accepted, fits_accepted}
use Rattle.protocol.specs.Certificates.{message}
use Rattle.replica.specs.Sending.{Sealed, Starts}

message_length : (h : ℕ) (st : Statement) → length (message h st) ≡ size st
unfolding message
message_length h st = length_writing h st

module _ (config : ClusterConfig) (h : ℕ) (st : Statement) (out out' : List ℕ) (r : Result (Option ℕ) ReadFault) (fits : Fits config h st) (room : size st ≤ length out)
    (answers : r ≡ answered config h st (length out)) (fills : out' ≡ filled r (writing h st) out) where
  written : out' ≡ message h st ++ drop (size st) out
  unfolding message
  written =
      let test = le-leb (size st) (length out) room in
      let given : answered config h st (length out) ≡ Ok (Some (size st)) = rw (fits, test) refl in
      fills ∙ ap (λ (x : Result (Option ℕ) ReadFault). filled x (writing h st) out) (answers ∙ given)

  pub written_whole : Starts (message h st) out out'
  written_whole = rw message_length written

  -- the start of the buffer that is sealed is the message
  pub sealed_whole : (register register' : RegisterState) (long : ℕ) → long ≡ size st → register.fits (size st) ≡ true → register' ≡ after_sealing register h (take long out')
      → Sealed h (message h st) register register'
  sealed_whole register register' long e has left =
      let start : take long out' ≡ message h st = ap (λ (k : ℕ). take k out') e ∙ ap (take (size st)) written ∙ take_at (message h st) (drop (size st) out) (size st) (message_length h st) in
      let all : register' ≡ after_sealing register h (message h st) = left ∙ ap (after_sealing register h) start in
      let given = fits_accepted register h (message h st) (ap register.fits (message_length h st) ∙ has) in
      record { pairs = ap (λ (r : RegisterState). r.sealed) all ∙ accepted register h (message h st) given; all = all }
