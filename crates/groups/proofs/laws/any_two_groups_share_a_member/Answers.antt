use Rattle.groups.proofs.Quorum.{shared}
use Rattle.groups.proofs.laws.any_two_groups_share_a_member.Goals as goal

pub returns : goal.returns
returns c = shared
