use Rattle.groups.proofs.Quorum.{led}
use Rattle.groups.proofs.laws.each_primary_is_a_member.Goals as goal

pub returns : goal.returns
returns c = led
