use Rattle.groups.proofs.Quorum.{sized, within}
use Rattle.groups.proofs.laws.each_group_has_t_plus_one_of_the_replicas.Goals as goal

pub returns : goal.returns
returns c = record { sized = sized; within = within }
