-- The laws of the groups: the tables pass one test, and two sets of t + 1 out of 2t + 1 share a replica.
use Rattle.std.proofs.Common.{◌≡◌, ℕ, suc, ◌+◌, ◌*◌, ◌%◌, ◌<◌, Bool, true, false, ◌||◌, T, eqb, ltb, List, [], ◌∷◌, length, get_or, refl, ap, ◌∙◌, subst, mod-lt, mod-eq_of_lt, arith, eqb→eq, ltb→lt}
use lib.Dec.{eqb_refl}
use Rattle.std.specs.List.{AllByRecursion as All}
use Rattle.std.proofs.ByRecursion.{All-get_or}
use Rattle.wire.specs.declared.config.ClusterSize.{ClusterSize}
use Rattle.wire.specs.declared.config.ClusterSize.TheVariants.{Three, Five}
use Rattle.wire.specs.declared.config.ClusterConfig.{ClusterConfig}
use Rattle.wire.specs.Configs.{faults_of, faults, replicas}
use Rattle.groups.specs.Counting.{count, alike}
use Rattle.groups.specs.Groups.{rows_of, rows, group, among, leader, member}
use Rattle.groups.specs.Laws.{Sized, Within, Led, Met, Shared, Complete}
use Rattle.groups.proofs.Counting.{both, count_same, count_none, count_places}
use Rattle.groups.proofs.Tables.{parts, every, table_passes, Rule, table_rule}

abbrev members_below : ℕ → List ℕ → Bool
members_below n members = every (λ m. ltb m n) members

-- each size's table passes the test
passes : (size : ClusterSize) → T (table_passes among members_below (2 * faults_of size + 1) (faults_of size + 1) (rows_of size))
passes Three = tt
passes Five = tt

rule : (c : ClusterConfig) → Rule among members_below (replicas c) (faults c + 1) (rows c)
rule c = table_rule among members_below (replicas c) (faults c + 1) (rows c) (passes c.size)

-- what holds of every row holds of every group
of_group : (c : ClusterConfig) (P : List ℕ → Type 0) → All P (rows c) → (view : ℕ) → P (group c view)
of_group c P all view = All-get_or P (rows c) (view % length (rows c)) [] (mod-lt view (rule c).some) all

among_below : (n : ℕ) (members : List ℕ) → T (members_below n members) → (h : ℕ) → T (among members h) → h < n
among_below n [] t h i = absurd i
among_below n (m ∷ members) t h i =
    let ts = parts (ltb m n) (members_below n members) t in
    go (eqb m h) refl i ts.0 (among_below n members ts.1 h)
  where
    go : (b : Bool) → eqb m h ≡ b → T (b || among members h) → T (ltb m n) → (T (among members h) → h < n) → h < n
    go true e i below rest = subst (λ (x : ℕ). x < n) (eqb→eq m h (rw e tt)) (ltb→lt m n below)
    go false e i below rest = rest i

leader_among : (n k : ℕ) (members : List ℕ) → count n (among members) ≡ suc k → T (among members (leader members))
leader_among n k [] e = absurd (omega (arith, count_none n))
leader_among n k (m ∷ members) e = rw (is_true (eqb m m) (eqb_refl m)) tt
  where
    is_true : (b : Bool) → T b → b ≡ true
    is_true true t = refl
    is_true false t = absurd t

pub sized : Sized
sized c view = of_group c (λ r. count (replicas c) (among r) ≡ faults c + 1) (rule c).sized view

pub within : Within
within c view h m = among_below (replicas c) (group c view) (of_group c (λ r. T (members_below (replicas c) r)) (rule c).bounded view) h m

pub led : Led
led c view = leader_among (replicas c) (faults c) (group c view) (sized c view ∙ omega arith)

pub met : Met
met c view set many = both (replicas c) set (member c view) (let s = sized c view in omega arith)

pub shared : Shared
shared c view other = met c other (member c view) (let s = sized c view in omega arith)

pub complete : Complete
complete c set e =
    count_same (length (rows c)) (λ row. alike (replicas c) (member c row) set) (λ row. alike (replicas c) (among (get_or (rows c) row [])) set)
    (λ row l. ap (λ (i : ℕ). alike (replicas c) (among (get_or (rows c) i [])) set) (mod-eq_of_lt l))
    ∙ count_places (λ r. alike (replicas c) (among r) set) (rows c) []
    ∙ (rule c).once set e
