-- Fields in range make a request, and a request is the one with its fields.
use Rattle.std.proofs.Common.{◌≡◌, Bool, true, false, IsTrue, Some, refl}
use Rattle.std.proofs.Math.Bool.{Bool-set}
use Rattle.wire.specs.declared.request.Request.{Request}
use Rattle.wire.specs.Ranges.{in_range}
use Rattle.wire.specs.Requests.{if_valid, request}

pub request_is : (r : Request) → request r.client r.stamp r.work ≡ Some r
request_is r = go (in_range r.client r.stamp r.work) (λ t. t) r.valid
  where
    go : (b : Bool) (f : IsTrue b → IsTrue (in_range r.client r.stamp r.work)) → IsTrue b → if_valid r.client r.stamp r.work b f ≡ Some r
    go true f t = λ i. Some (record { client = r.client; stamp = r.stamp; work = r.work; valid = Bool-set _ _ (f refl) r.valid i })
    go false f t = cc
