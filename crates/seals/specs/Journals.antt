-- What a journal means as a register.
use Rattle.std.specs.Prelude.{ℕ, Bool, List, [], is_some, Option}
use Rattle.seals.specs.declared.journal.Journal.{Journal}
use Rattle.seals.specs.Registers.{Pair, RegisterState, among}
use Rattle.seals.specs.Layout.{entries}
use Rattle.seals.specs.Logs.{new_place, place, used_bytes}

-- what has a place fits
abbrev pub placed_fits : (List Pair → ℕ → Option ℕ) → List Pair → ℕ → Bool
placed_fits place_of ps n = is_some (place_of ps n)

-- a journal has sealed what its entries say, and what has a place fits
abbrev pub journal_state : Journal → RegisterState
journal_state j =
    record {
      sealed = among (entries (used_bytes j.log));
      fits = placed_fits (place j.log) [];
      then_fits = placed_fits (place j.log);
    }

-- what fits into a new journal of so many bytes, once these pairs are sealed
abbrev pub new_journal_fits : ℕ → List Pair → ℕ → Bool
new_journal_fits space = placed_fits (new_place space)
