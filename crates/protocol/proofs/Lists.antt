-- Lists numbered from 1, and what one more request does to a replay.
use Rattle.std.proofs.Common.{◌≡◌, ℕ, zero, suc, ◌<◌, ◌≤◌, List, [], ◌∷◌, map, length, get_or, take, set, Some, arith}
use Rattle.std.specs.List.{slice_get}
use Rattle.std.proofs.lemmas.Grind.{common_steps, elements}
use Rattle.std.proofs.lemmas.Option.{slice_get-map, gets}
use Rattle.wire.specs.declared.entry.LogEntry.{LogEntry}
use Rattle.wire.specs.declared.request.Request.{Request}
use Rattle.protocol.specs.Numbers.{at_number}
use Rattle.protocol.specs.Replay.{RequestMachine, replay}
use Rattle.protocol.specs.Rules.{HasEntry}
use Rattle.protocol.specs.States.{blank_entry}

pub at_number_map : {A B : Type 0} (f : A → B) (xs : List A) (n : ℕ) (x : A) → at_number xs n ≡ Some x → at_number (map f xs) n ≡ Some (f x)
at_number_map f xs zero x e = cc
at_number_map f xs (suc k) x e = rw (slice_get-map f xs k, e)

-- after one more request of a list the machine is one step further
pub replay_next : (machine : RequestMachine) (state : machine.State) (requests : List Request) (k : ℕ) (r : Request) → at_number requests (suc k) ≡ Some r
    → replay machine state (take (suc k) requests) ≡ (machine.step (replay machine state (take k requests)) r).0
replay_next machine state [] k r e = cc
replay_next machine state (x ∷ xs) zero r e = cc
replay_next machine state (x ∷ xs) (suc k) r e = replay_next machine (machine.step state x).0 xs k r e

-- the entries of a log, as far as it is filled
pub has_entry : (log : List LogEntry) (logged k view : ℕ) → k < logged → logged ≤ length log → view ≤ (get_or log k blank_entry).view
    → HasEntry (take logged log) (suc k) view
has_entry log logged k view below within no_later = (get_or log k blank_entry, grind (arith, common_steps, gets), no_later)

-- an entry of a log, as far as it is filled, stands in the log
pub entry_placed : (log : List LogEntry) (logged n : ℕ) (e : LogEntry) → logged ≤ length log → at_number (take logged log) n ≡ Some e
    → (k : ℕ) × (n ≡ suc k) × (k < logged) × (get_or log k blank_entry ≡ e)
entry_placed log logged zero e within at = cc
entry_placed log logged (suc k) e within at = grind (arith, common_steps, gets)

-- a place that is set, and the others
pub nth_set : {A : Type 0} (xs : List A) (i : ℕ) (x y : A) → slice_get xs i ≡ Some y → slice_get (set xs i x) i ≡ Some x
nth_set xs i x y e = grind (arith, common_steps, elements, gets)

pub nth_set_other : {A : Type 0} (xs : List A) (i j : ℕ) (x : A) → (j ≡ i → ⊥) → slice_get (set xs i x) j ≡ slice_get xs j
nth_set_other xs i j x apart = grind (arith, common_steps, elements, gets)
