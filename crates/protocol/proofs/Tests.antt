-- What passed tests say: the checks of an accepted call, tests of all or some replicas, and equal requests.
use Rattle.std.proofs.Common.{◌≡◌, ℕ, zero, suc, ◌<◌, Bool, T, ◌⊎◌, List, [], ◌∷◌, Option, subst, not-suc-le-zero, arith}
use Rattle.std.proofs.lemmas.Bool.Decides.{nat_tests}
use Rattle.wire.specs.declared.request.Request.{Request}
use Rattle.wire.specs.Statements.{Statement}
use Rattle.wire.proofs.Building.{request_is}
use Rattle.groups.specs.Counting.{all_below}
use Rattle.groups.specs.Groups.{among}
use Rattle.protocol.specs.declared.state.State.{State}
use Rattle.protocol.specs.Certificates.{every}
use Rattle.protocol.specs.Selecting.{any_below}
use Rattle.protocol.specs.Steps.{Effect, Verdict, refused, accepted, same}

abbrev Accepting : (State → Effect → Option Statement → Type 0) → Verdict → Type 0
Accepting P (refused fault) = Unit {0}
Accepting P (accepted s effect statement answer) = P s effect statement

-- what holds of the state, the effect and the statement that a call is accepted with holds of the same under other names
pub as_accepted : (P : State → Effect → Option Statement → Type 0) {s s' : State} {effect effect' : Effect} {statement statement' : Option Statement} {answer answer' : ℕ}
    → accepted s effect statement answer ≡ accepted s' effect' statement' answer' → P s effect statement → P s' effect' statement'
as_accepted P e p = subst (Accepting P) e p

-- ---- all and some

pub every_at : (hs : List ℕ) (passes : ℕ → Bool) → T (every hs passes) → (h : ℕ) → T (among hs h) → T (passes h)
every_at [] passes t h m = absurd m
every_at (g ∷ hs) passes t h m = grind (arith, nat_tests, every_at hs passes)

pub last_or_below : (k n : ℕ) → k < suc n → (k ≡ n) ⊎ (k < n)
last_or_below k n l = grind arith

pub all_at : (n : ℕ) (passes : ℕ → Bool) → T (all_below n passes) → (k : ℕ) → k < n → T (passes k)
all_at zero passes t k l = absurd (not-suc-le-zero l)
all_at (suc n) passes t k l = grind (arith, all_at n passes)

pub any_in : (n : ℕ) (passes : ℕ → Bool) (k : ℕ) → k < n → T (passes k) → T (any_below n passes)
any_in zero passes k l t = absurd (not-suc-le-zero l)
any_in (suc n) passes k l t = grind (arith, any_in n passes k)

-- ---- requests

pub same_equal : (a b : Request) → T (same a b) → a ≡ b
same_equal a b t = grind (arith, nat_tests, request_is a, request_is b)
