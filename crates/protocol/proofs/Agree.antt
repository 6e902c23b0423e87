-- Agreement from the rules of single replicas. What a view's honest members all replied to is certified with the same request in every later view:
-- a certificate there has the vote of a witness, which heeds the report of one of those members.
use Rattle.std.proofs.Common.{◌≡◌, ℕ, zero, suc, ◌+◌, ◌-◌, ◌<◌, ◌≤◌, Bool, not, ◌&&◌, T, List, map, take, Some, refl, ap, ◌∙◌, subst, ⊎_elim, not-suc-le-zero, arith}
use Rattle.std.proofs.lemmas.Bool.{cases_lt}
use Rattle.wire.specs.declared.config.ClusterConfig.{ClusterConfig}
use Rattle.wire.specs.declared.request.Request.{Request}
use Rattle.wire.specs.Configs.{faults, replicas}
use Rattle.wire.specs.Counting.{count}
use Rattle.wire.specs.Statements.{reply}
use Rattle.groups.specs.Groups.{member}
use Rattle.protocol.specs.Facts.{Facts, Honest, Serves, Receipt, Witnessed, OneList, LaterSame}
use Rattle.protocol.specs.Numbers.{at_number}
use Rattle.protocol.specs.Replay.{RequestMachine, after, outcome_of}
use Rattle.protocol.specs.Rules.{GroupLaws, Certified, Backed, Executed, nothing, one_more, Replied, Rules, RulesAgree}
use Rattle.protocol.proofs.Choice.{best}
use Rattle.protocol.proofs.Quorum.{each_passes, share, count_not, count_more}
use Rattle.protocol.proofs.Lists.{at_number_map, replay_next}

module _ (config : ClusterConfig) (machine : RequestMachine) (facts : Facts machine) where
  abbrev Serving : (h view : ℕ) → Type 0
  Serving = Serves config machine facts

  abbrev Cert : (view number : ℕ) → Request → Type 0
  Cert = Certified config machine facts

  -- a request certified in some view has to be r, if r alone is certified in view v and each later certificate is backed by one from v on
  pub certificates_stay : (v n : ℕ) (r r' : Request) → (Cert v n r' → r' ≡ r) → ((u : ℕ) → v < u → Cert u n r' → Backed config machine facts v u n r')
      → (u : ℕ) → v ≤ u → Cert u n r' → r' ≡ r
  certificates_stay v n r r' at_first backed u le c = descend (suc u) u (omega arith) le c
    where
      descend : (fuel u : ℕ) → u < fuel → v ≤ u → Cert u n r' → r' ≡ r
      descend zero u l le c = absurd (not-suc-le-zero l)
      descend (suc fuel) u l le c =
          ⊎_elim (λ (later : v < u). let b = backed u later c in descend fuel b.0 (omega arith) b.1 b.3)
          (λ (first : u ≤ v). let same : u ≡ v = omega arith in at_first (subst (λ (w : ℕ). Cert w n r') same c)) (cases_lt v u)

  -- each honest member of v's group replied to number n there, with request r
  abbrev pub Settled : (v n : ℕ) → Request → Type 0
  Settled v n r = (h : ℕ) → Serving h v → (outcome : ℕ) × facts.Known h (reply v n r outcome)

  -- the last of the numbers that a replica executed
  last_step : {h v k : ℕ} {state : machine.State} → Executed config machine facts h v (suc k) state
      → (r : Request) × (outcome : ℕ) × facts.Known h (reply v (suc k) r outcome) × Cert v (suc k) r
  last_step (one_more {state = q} r before certified known) = (r, (machine.step q r).1, known, certified)

  module _ (laws : GroupLaws config) (few : count (replicas config) facts.byzantine ≤ faults config) (rules : Rules config machine facts) where
    -- any t + 1 replicas have one in any group
    member_among : (v : ℕ) (set : ℕ → Bool) → faults config + 1 ≤ count (replicas config) set
        → (h : ℕ) × (h < replicas config) × T (set h) × T (member config v h)
    member_among v set enough = share (replicas config) set (member config v) (omega (arith, laws.full v))

    honest_member : (v : ℕ) → (h : ℕ) × Serving h v
    honest_member v =
        let x = member_among v (λ h. not (facts.byzantine h)) (omega (arith, count_not (replicas config) facts.byzantine)) in
        (x.0, record { replica = record { inside = x.1; honest = x.2 }; grouped = x.3 })

    one_certificate : (v n : ℕ) (r r' : Request) → Cert v n r → Cert v n r' → r ≡ r'
    one_certificate v n r r' c c' =
        let (h, s) = honest_member v in
        (rules h s.replica).one_vote v n r r' (c h s.replica.inside s.grouped) (c' h s.replica.inside s.grouped)

    settled_certified : (v n : ℕ) (r : Request) → Settled v n r → Cert v n r
    settled_certified v n r settled =
        let (h, s) = honest_member v in
        let (outcome, known) = settled h s in
        ((rules h s.replica).replies v n r outcome known).certified

    -- the number before a settled one is settled
    settled_before : (v k : ℕ) (r : Request) → Settled v (suc (suc k)) r → (r' : Request) × Settled v (suc k) r'
    settled_before v k r settled =
        let (h, s) = honest_member v in
        let (r', _, _, certified) = before h s in (
          r',
          λ g t.
              let (r'', outcome, known, certified'') = before g t in
              (outcome, rw (one_certificate v (suc k) r'' r' certified'' certified) at known),
        )
      where
        before : (h : ℕ) → Serving h v → (r : Request) × (outcome : ℕ) × facts.Known h (reply v (suc k) r outcome) × Cert v (suc k) r
        before h s =
            let (outcome, known) = settled h s in
            let p = (rules h s.replica).replies v (suc (suc k)) r outcome known in
            let is : p.before ≡ suc k = omega (arith, p.numbered) in
            last_step (rw is at p.executed)

    -- replicas that executed equally many requests in one view did the same ones
    same_runs : {h h' v k : ℕ} {q q' : machine.State} → Executed config machine facts h v k q → Executed config machine facts h' v k q' → q ≡ q'
    same_runs nothing nothing = refl
    same_runs {v = v} (one_more {k = k} r before c known) (one_more r' before' c' known') =
        let same = one_certificate v (suc k) r r' c c' in
        let ih = same_runs before before' in
        cc

    module _ (witnessed : Witnessed config machine facts) where
      settled_backed : (v n : ℕ) (r r' : Request) → Settled v n r → (u : ℕ) → v < u → Cert u n r' → Backed config machine facts v u n r'
      settled_backed v n r r' settled u later c =
          -- an honest member of u's group opened u, so there is a witness, which voted as well
          let (h, s) = honest_member u in
          let w = witnessed h u (omega arith) s.replica ((rules h s.replica).chooses u n r' (omega arith) s.grouped (c h s.replica.inside s.grouped)).opened in
          let good = w.serves.replica in
          let grouped = w.serves.grouped in
          let rules_w = rules w.who good in
          let chosen = rules_w.chooses u n r' (omega arith) grouped (c w.who good.inside grouped) in
          let closing = rules_w.closes u w.holding w.closed in
          let mask = rules_w.one_closing u closing.mask chosen.mask closing.closed chosen.closed in
          -- it held the report of an honest member of v's group
          let (x, inside, both, grouped_x) = member_among v (λ x. not (facts.byzantine x) && w.holding x) w.enough in
          let (honest, held) = each_passes (not (facts.byzantine x)) (w.holding x) both in
          let heeded = chosen.heeds x inside (rw mask at (closing.naming x inside held)) in
          -- which has an entry from v on
          let good_x : Honest config machine facts x = record { inside = inside; honest = honest } in
          let (outcome, known) = settled x (record { replica = good_x; grouped = grouped_x }) in
          let (e, at_n, from) = (rules x good_x).reports v n r outcome u heeded.entries later known heeded.reported in
          let (y, no_lower, below, certified) = heeded.highest e at_n in
          (y, omega arith, below, certified)

      -- each certificate of a settled number, in its view or a later one, is of its request
      settled_stays : (v n : ℕ) (r r' : Request) → Settled v n r → (u : ℕ) → v ≤ u → Cert u n r' → r' ≡ r
      settled_stays v n r r' settled =
          certificates_stay v n r r' (λ c. one_certificate v n r' r c (settled_certified v n r settled)) (settled_backed v n r r' settled)

      -- the one list: of each number the request of the highest view in the honest replicas' logs
      listed : List Request
      listed = map (λ e. e.request) (best (replicas config) (λ h. not (facts.byzantine h)) facts.log).entries

      settled_listed : (v n : ℕ) (r : Request) → Settled v n r → at_number listed n ≡ Some r
      unfolding listed
      settled_listed v n r settled =
          let all = best (replicas config) (λ h. not (facts.byzantine h)) facts.log in
          let (h, s) = honest_member v in
          let (outcome, known) = settled h s in
          let (e, at_n, from) = all.no_lower h n v s.replica.inside s.replica.honest ((rules h s.replica).logs v n r outcome known) in
          let (g, inside, honest, at_g) = all.from_one n e at_n in
          let certified = (rules g (record { inside = inside; honest = honest })).log_certified n e at_g in
          let same = settled_stays v n r e.request settled e.view from certified in
          at_number_map (λ e. e.request) all.entries n e at_n ∙ ap Some same

      -- whoever executes the numbers below one that is settled in view v, there or later, executes what is listed
      executes_listed : {h u k : ℕ} {q : machine.State} (v : ℕ) (r : Request) → v ≤ u → Settled v (suc k) r → Executed config machine facts h u k q
          → q ≡ after machine (take k listed)
      executes_listed v r le settled nothing = refl
      executes_listed {u = u} v r le settled (one_more {k = k} {state = q} r' before certified known) =
          let (r'', settled'') = settled_before v k r settled in
          let same : r' ≡ r'' = settled_stays v (suc k) r'' r' settled'' u le certified in
          let so_far = executes_listed v r'' le settled'' before in
          let step = replay_next machine machine.fresh listed k r'' (settled_listed v (suc k) r'' settled'') in
          cc

      outcome_listed : (v u n h : ℕ) (r r' : Request) (outcome : ℕ) → v ≤ u → Settled v n r → Replied config machine facts h u n r' outcome
          → outcome ≡ outcome_of machine (take (n - 1) listed) r'
      outcome_listed v u n h r r' outcome le settled p =
          let is = executes_listed v r le (rw p.numbered at settled) p.executed in
          let at_n : n - 1 ≡ p.before = omega (arith, p.numbered) in
          p.gives ∙ rw (at_n, is)

      receipt_settles : (v n : ℕ) (r : Request) (outcome : ℕ) → Receipt config machine facts v n r outcome → Settled v n r
      receipt_settles v n r outcome receipt h s = (outcome, receipt h s.replica.inside s.grouped)

      one_list : OneList config machine facts
      one_list =
          record {
            requests = listed;
            named = λ v n r outcome receipt.
                let settled = receipt_settles v n r outcome receipt in
                let (h, s) = honest_member v in
                let replied = (rules h s.replica).replies v n r outcome (receipt h s.replica.inside s.grouped) in
                (settled_listed v n r settled, outcome_listed v v n h r r outcome (omega arith) settled replied);
          }

      later_same : LaterSame config machine facts
      unfolding one_list
      later_same v n r outcome receipt h u r' outcome' honest le carried =
          let settled = receipt_settles v n r outcome receipt in
          let replied = (rules h honest).replies u n r' outcome' ((rules h honest).carries u n r' outcome' carried) in
          let same = settled_stays v n r r' settled u le replied.certified in
          let given = (one_list.named v n r outcome receipt).1 in
          let given' = outcome_listed v u n h r r' outcome' le settled replied in
          (same, cc)

    all_honest : ((x : ℕ) → x < replicas config → T (not (facts.byzantine x))) → Witnessed config machine facts
    all_honest honest h v above good opened =
        let c = (rules h good).opens v above opened in
        record {
          who = h;
          serves = record { replica = good; grouped = c.grouped };
          holding = c.holding;
          closed = c.closed;
          enough = omega (
            arith,
            c.enough,
            count_more (replicas config) c.holding (λ x. not (facts.byzantine x) && c.holding x)
                (λ x l t. grind (arith, honest x l)),
          );
        }

pub rules_agree : RulesAgree
rules_agree config machine facts laws few rules =
    record {
      one_list = one_list config machine facts laws few rules;
      later_same = later_same config machine facts laws few rules;
      same_states = λ h h' v executed q q' good good' w w'.
          same_runs config machine facts laws few rules ((rules h good).works v executed q w) ((rules h' good').works v executed q' w');
      all_honest = all_honest config machine facts laws few rules;
    }
