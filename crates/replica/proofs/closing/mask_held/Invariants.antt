use Rattle.std.proofs.Common.{◌≡◌}
use Rattle.protocol.specs.Selecting.{holds, mask_of}
use Rattle.replica.proofs.closing.mask_held.Given as goal

abbrev pub invariant-loop-replica : goal.invariant-loop-replica
invariant-loop-replica l = l.mask ≡ mask_of l.replica (holds l.state)
