use Rattle.std.proofs.Common.{◌≡◌, ◌++◌, drop, vec_items}
use Rattle.std.specs.Option.{option_map}
use Rattle.scenario.specs.Hex.{bytes_of}
use Rattle.scenario.proofs.Pairs.{bytes_of_pairs}
use Rattle.scenario.proofs.words.bytes.Given as goal

-- the bytes so far, and those that are left
abbrev pub invariant-loop-high : goal.invariant-loop-high
invariant-loop-high l = option_map (λ bs. vec_items l.bytes ++ bs) (bytes_of_pairs (drop l.high-index l.pairs)) ≡ bytes_of l.word
