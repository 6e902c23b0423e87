-- The sizes of a cluster: n replicas, of which t may be Byzantine, n = 2t + 1.
use Rattle.std.specs.Prelude.{ℕ, ◌+◌, ◌*◌, cond, Ok, Err, Result, ◌==◌}
use Rattle.wire.specs.declared.fault.ReadFault.{ReadFault}
use Rattle.wire.specs.declared.fault.ReadFault.TheVariants.{Setting}
use Rattle.wire.specs.declared.config.ClusterSize.{ClusterSize}
use Rattle.wire.specs.declared.config.ClusterSize.TheVariants.{Three, Five}
use Rattle.wire.specs.declared.config.ClusterConfig.{ClusterConfig}

abbrev pub faults_of : ClusterSize → ℕ
faults_of Three = 1
faults_of Five = 2

-- t: how many Byzantine replicas are borne
abbrev pub faults : ClusterConfig → ℕ
faults c = faults_of c.size

-- n: how many replicas there are, numbered from 0
abbrev pub replicas : ClusterConfig → ℕ
replicas c = 2 * faults c + 1

-- the cluster of n replicas
abbrev pub config_of : ℕ → Result ClusterConfig ReadFault
config_of n =
    cond (n == 3) (Ok (record { size = Three }))
    (cond (n == 5) (Ok (record { size = Five }))
    (Err Setting))
