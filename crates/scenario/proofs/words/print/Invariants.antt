use Rattle.std.proofs.Common.{◌≡◌, ◌+◌, ◌*◌, ◌≤◌, ◌++◌, length, take, drop, string_bytes, string_len, string_capacity}
use Rattle.scenario.specs.Hex.{printed}
use Rattle.scenario.proofs.words.print.Given as goal

-- what is printed so far, and what is left; the text before stays, and the room is not less
abbrev pub invariant-loop-b : goal.invariant-loop-b
invariant-loop-b l =
    record {
      prints : string_bytes l.out ++ printed (drop l.b-index l.bytes) ≡ string_bytes l.initial.out ++ printed l.bytes;
      keeps : take (length (string_bytes l.initial.out)) (string_bytes l.out) ≡ string_bytes l.initial.out;
      within : length (string_bytes l.initial.out) ≤ length (string_bytes l.out);
      len : string_len l.out ≡ string_len l.initial.out + 2 * l.b-index;
      capacity : string_capacity l.initial.out ≤ string_capacity l.out;
    }
