use Rattle.std.proofs.Common.{◌≤◌, length}
use Rattle.warpberyl.proofs.play_on.Given as goal

-- no line comes back
abbrev pub invariant-loop-line : goal.invariant-loop-line
invariant-loop-line g l = length l.lines ≤ length l.fn.lines

abbrev pub decreases-loop-line : goal.decreases-loop-line
decreases-loop-line g l = length l.lines
