-- What an indexed journal means as a register.
use Rattle.std.specs.Prelude.{ℕ, Bool, ◌&&◌, List, [], length, Option, nat_lt}
use Rattle.seals.specs.declared.index.IndexedJournal.{IndexedJournal}
use Rattle.seals.specs.Registers.{Pair, RegisterState, among}
use Rattle.seals.specs.Logs.{entry_at, new_place, place}
use Rattle.seals.specs.Slots.{contents, holdable, pairs_in}

-- what the slots of an index hold
abbrev pub index_contents : IndexedJournal → List (Option Pair)
index_contents x = contents (entry_at x.log) x.slots.now

-- what has a place at an offset that a slot can hold fits, while a slot is empty
abbrev pub slots_fit : ℕ → (List Pair → ℕ → Option ℕ) → List Pair → ℕ → Bool
slots_fit empty place_of ps n = nat_lt (length ps) empty && holdable (place_of ps n)

-- an index has sealed what its slots hold, and what its slots and the log have room for fits
abbrev pub index_state : IndexedJournal → RegisterState
index_state x =
    record {
      sealed = among (pairs_in (index_contents x));
      fits = slots_fit x.empty (place x.log) [];
      then_fits = slots_fit x.empty (place x.log);
    }

-- what fits into a new index of so many bytes and slots, once these pairs are sealed
abbrev pub new_index_fits : ℕ → ℕ → List Pair → ℕ → Bool
new_index_fits space slots = slots_fit slots (new_place space)
