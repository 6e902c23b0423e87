-- Requests by their fields.
use Rattle.std.specs.Prelude.{ℕ, Bool, true, false, IsTrue, Some, None, Option, refl}
use Rattle.std.specs.Option.{unwrap_or}
use Rattle.wire.specs.declared.request.Request.{Request}
use Rattle.wire.specs.Ranges.{in_range}

-- the request with these fields if they pass a test that shows them to be in range
abbrev pub if_valid : (client stamp work : ℕ) (test : Bool) → (IsTrue test → IsTrue (in_range client stamp work)) → Option Request
if_valid client stamp work true shows = Some (record { client = client; stamp = stamp; work = work; valid = shows refl })
if_valid client stamp work false shows = None

-- the request with these fields, if they are in range
abbrev pub request : ℕ → ℕ → ℕ → Option Request
request client stamp work = if_valid client stamp work (in_range client stamp work) (λ t. t)

-- the request that fills an empty place
abbrev pub blank : Request
blank = record { client = 1; stamp = 0; work = 0; valid = refl }

-- the request with these fields; blank where they are out of range
abbrev pub request_or_blank : ℕ → ℕ → ℕ → Request
request_or_blank client stamp work = unwrap_or (request client stamp work) blank
