-- What a replica's accepted calls left behind: replies to what it carried out, closings that name what it held, and a closing before each opening.
use Rattle.std.proofs.Common.{◌≡◌, ℕ, ◌+◌, ◌<◌, Bool, ◌⊎◌, List, [], ◌∷◌, ◌++◌, Some, Ok, refl, subst, inl, inr, ⊎_elim, arith}
use Rattle.wire.specs.declared.config.ClusterConfig.{ClusterConfig}
use Rattle.wire.specs.declared.request.Request.{Request}
use Rattle.wire.specs.Statements.{Statement, reply}
use Rattle.protocol.specs.declared.state.State.{State}
use Rattle.protocol.specs.Agreement.{Among, Accepted, facts_of}
use Rattle.protocol.specs.Facts.{Facts}
use Rattle.protocol.specs.Receipts.{Made}
use Rattle.protocol.specs.Replay.{RequestMachine}
use Rattle.protocol.specs.Rules.{ClosingNames, ClosedBefore}
use Rattle.protocol.specs.Runs.{Cluster, call, Deed}
use Rattle.protocol.specs.Selecting.{holds}
use Rattle.protocol.specs.States.{next_request}
use Rattle.protocol.specs.Steps.{Act, carries_out, closes, opens}
use Rattle.protocol.proofs.Grow.{Grows, closed_before_grows}

-- ---- one deed more

pub among_more : (d x : Deed) (ds : List Deed) → Among d ds → Among d (ds ++ x ∷ [])
among_more d x [] a = absurd a
among_more d x (e ∷ es) a = grind (arith, among_more d x es)

pub among_new : (x : Deed) (ds : List Deed) → Among x (ds ++ x ∷ [])
among_new x [] = inl refl
among_new x (e ∷ es) = inr (among_new x es)

among_last : (d x : Deed) (ds : List Deed) → Among d (ds ++ x ∷ []) → Among d ds ⊎ (d ≡ x)
among_last d x [] a = grind arith
among_last d x (e ∷ es) a = grind (arith, among_last d x es)

accepted_more : (x : Deed) (ds : List Deed) (h : ℕ) (act : Act) (s : State) (answer : ℕ) → Accepted ds h act s answer → Accepted (ds ++ x ∷ []) h act s answer
accepted_more x ds h act s answer a = record { room = a.room; done = among_more _ x ds a.done }

-- the deed is an accepted call of replica h
abbrev pub IsCall : Deed → (h : ℕ) → Act → State → (answer : ℕ) → Type 0
IsCall x h act s answer = (room : ℕ) × (x ≡ record { event = call h room act; was = Some s; gave = Ok answer })

accepted_last : {h : ℕ} {act : Act} {s : State} {answer : ℕ} (x : Deed) (ds : List Deed) → Accepted (ds ++ x ∷ []) h act s answer
    → Accepted ds h act s answer ⊎ IsCall x h act s answer
accepted_last x ds a = grind (arith, among_last _ x ds a.done)

pub accepted_new : {h : ℕ} {act : Act} {s : State} {answer : ℕ} (x : Deed) (ds : List Deed) → IsCall x h act s answer → Accepted (ds ++ x ∷ []) h act s answer
accepted_new x ds is = record { room = is.0; done = subst (λ (d : Deed). Among d (ds ++ x ∷ [])) is.1 (among_new x ds) }

module _ (config : ClusterConfig) (machine : RequestMachine) (byzantine : ℕ → Bool) (ds : List Deed) (c : Cluster machine.State) (x : Deed) (d : Cluster machine.State) where
  abbrev before : Facts machine
  before = facts_of config machine byzantine ds c

  abbrev after : Facts machine
  after = facts_of config machine byzantine (ds ++ x ∷ []) d

  pub history_grows : ((h : ℕ) (st : Statement) → Made config c.sealed h st → Made config d.sealed h st) → Grows before after
  history_grows known = search (arith, known, accepted_more x ds)

-- ---- what is left behind

module _ (config : ClusterConfig) (machine : RequestMachine) (facts : Facts machine) (h : ℕ) where
  pub record Past : Type 0 where
    pub carries : (v n : ℕ) (r : Request) (outcome : ℕ) → facts.Carried h v n r outcome → facts.Known h (reply v n r outcome)
    pub closes : (v : ℕ) (holding : ℕ → Bool) → facts.Closed h v holding → ClosingNames config machine facts h v holding
    pub opens : (v : ℕ) → 0 < v → facts.Opened h v → ClosedBefore config machine facts h v

  -- what an accepted call of a replica in state s leaves behind
  abbrev pub Leaves : State → Act → (answer : ℕ) → Type 0
  Leaves s carries_out answer = facts.Known h (reply s.view (s.executed + 1) (next_request s) answer)
  Leaves s closes answer = ClosingNames config machine facts h s.view (holds s)
  Leaves s opens answer = 0 < s.view → ClosedBefore config machine facts h s.view
  Leaves s act answer = Unit {0}

module _ (config : ClusterConfig) (machine : RequestMachine) (byzantine : ℕ → Bool) (ds : List Deed) (c : Cluster machine.State) (x : Deed) (d : Cluster machine.State)
    (grows : Grows (before config machine byzantine ds c x d) (after config machine byzantine ds c x d)) where
  -- one deed more leaves behind what it has to, if it is an accepted call of the replica
  pub past_more : (h : ℕ) → Past config machine (before config machine byzantine ds c x d) h
      → ((act : Act) (s : State) (answer : ℕ) → IsCall x h act s answer → Leaves config machine (after config machine byzantine ds c x d) h s act answer)
      → Past config machine (after config machine byzantine ds c x d) h
  past_more h past leaves =
      record {
        carries = λ v n r outcome o.
            ⊎_elim (λ old. grows.known h _ (past.carries v n r outcome (search (arith, old, o)))) (λ is. rw (← o.in_view, o.numbered, o.requested) (leaves carries_out o.state outcome is))
            (accepted_last x ds o.accepted);
        closes = λ v holding o.
            ⊎_elim
            (λ old. let p = past.closes v holding (search (arith, old, o)) in record { mask = p.mask; closed = grows.known h _ p.closed; naming = p.naming })
            (λ is.
            let p = leaves closes o.state o.answer is in
            record { mask = p.mask; closed = rw (← o.in_view) p.closed; naming = λ y inside t. p.naming y inside (o.held y t) })
            (accepted_last x ds o.accepted);
        opens = λ v above o.
            ⊎_elim (λ old. closed_before_grows config grows (past.opens v above (search (arith, old, o))))
            (λ is. rw o.in_view at (leaves opens o.state o.answer is (rw o.in_view above)))
            (accepted_last x ds o.accepted);
      }
