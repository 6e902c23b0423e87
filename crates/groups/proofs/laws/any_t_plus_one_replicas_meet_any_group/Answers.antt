use Rattle.groups.proofs.Quorum.{met}
use Rattle.groups.proofs.laws.any_t_plus_one_replicas_meet_any_group.Goals as goal

pub returns : goal.returns
returns c = met
