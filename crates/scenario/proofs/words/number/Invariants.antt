use Rattle.std.proofs.Common.{◌≡◌, ◌<◌, ◌^◌, drop}
use Rattle.scenario.specs.Numbers.{continued, in_u64}
use Rattle.scenario.proofs.words.number.Given as goal

-- the digits that are left decide
abbrev pub invariant-loop-b : goal.invariant-loop-b
invariant-loop-b l =
    record {
      decides : in_u64 (continued l.base l.value (drop l.b-index l.word)) ≡ in_u64 (continued l.base 0 l.word);
      within : l.value < 2 ^ 64;
    }
