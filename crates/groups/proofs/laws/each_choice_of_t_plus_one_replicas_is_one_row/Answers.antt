use Rattle.groups.proofs.Quorum.{complete}
use Rattle.groups.proofs.laws.each_choice_of_t_plus_one_replicas_is_one_row.Goals as goal

pub returns : goal.returns
returns c = complete
