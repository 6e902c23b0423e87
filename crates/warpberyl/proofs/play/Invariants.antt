use Rattle.std.proofs.Common.{◌+◌, length, if◌then◌else◌, is_some}
use Rattle.warpberyl.proofs.play.Given as goal

-- a line is read for each plan
abbrev pub decreases-loop-next : goal.decreases-loop-next
decreases-loop-next l = length l.lines + (if is_some l.next then 1 else 0)
