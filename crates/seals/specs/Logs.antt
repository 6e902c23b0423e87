-- What a log of entries holds, and where the next entry goes.
use Rattle.std.specs.Prelude.{ℕ, ◌+◌, ◌-◌, if◌then◌else◌, ◌&&◌, List, length, take, drop, Some, None, sum_by, Option, nat_le}
use Rattle.seals.specs.declared.log.EntryLog.{EntryLog}
use Rattle.seals.specs.Registers.{Pair}
use Rattle.seals.specs.Layout.{first, width}

-- the bytes that hold entries
abbrev pub used_bytes : EntryLog → List ℕ
used_bytes l = take l.used l.memory.now

-- the entry that is read at an offset
unfoldable pub entry_at : EntryLog → ℕ → Option Pair
entry_at l offset = first (drop offset (used_bytes l))

-- room for a next entry with so many bytes, with so many of the memory's used
abbrev pub placed : ℕ → ℕ → ℕ → Option ℕ
placed space used n = if nat_le n 65535 && nat_le (n + 3) (space - used) then Some used else None

-- the offset of a next entry with so many bytes, once these were appended; none where it does not fit
unfoldable pub place : EntryLog → List Pair → ℕ → Option ℕ
place l ps n = placed (length l.memory.now) (l.used + sum_by width ps) n

-- the same of a log with so many bytes of memory and no entry yet
abbrev pub new_place : ℕ → List Pair → ℕ → Option ℕ
new_place space ps n = placed space (sum_by width ps) n
