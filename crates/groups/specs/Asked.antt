-- A group as a value, and asking for the group of a view.
use Rattle.std.specs.Prelude.{ℕ, cond, List, Ok, Err, Result, nat_le}
use Rattle.wire.specs.declared.fault.ReadFault.{ReadFault}
use Rattle.wire.specs.declared.fault.ReadFault.TheVariants.{Setting}
use Rattle.wire.specs.declared.config.ClusterConfig.{ClusterConfig}
use Rattle.wire.specs.Kinds.{last_view}
use Rattle.groups.specs.declared.group.Group.{Group}
use Rattle.groups.specs.Groups.{group}

-- the members of a group
abbrev pub members_of : Group → List ℕ
members_of g = g.members.now

-- the members of the view's group; views run from 0 to 999,999
abbrev pub asked : ClusterConfig → ℕ → Result (List ℕ) ReadFault
asked c view = cond (nat_le view last_view) (Ok (group c view)) (Err Setting)

-- an answer, by the members of its group
abbrev pub members_in : Result Group ReadFault → Result (List ℕ) ReadFault
members_in (Ok g) = Ok (members_of g)
members_in (Err fault) = Err fault
