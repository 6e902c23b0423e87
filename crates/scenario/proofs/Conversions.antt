-- What a conversion answers is what it makes of a number.
use Rattle.std.proofs.Common.{◌≡◌, ℕ, Some, Option, Result, sym}
use Rattle.std.specs.Result.{result_ok}
use Rattle.scenario.specs.Numbers.{IsConverted}

pub converted : {X E : Type 0} (gives : ℕ → Result X E → Type 0) (o : Option ℕ) (n : ℕ) (answer : Result X E) (r : Option X)
    → Some n ≡ o → gives n answer → r ≡ result_ok answer → IsConverted gives o r
converted gives o n answer r is given made = rw (sym is) (answer, given, made)
