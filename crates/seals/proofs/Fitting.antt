-- What fits an index, by its empty slots and the log's place.
use Rattle.std.proofs.Common.{◌≡◌, ℕ, suc, ◌-◌, ◌<◌, true, false, ltb, List, [], length, Option, arith}
use Rattle.std.proofs.lemmas.Bool.Decides.{nat_tests}
use mathlib.Core.Path.{fun_ext}
use Rattle.std.proofs.lemmas.Bool.{lt-ltb}
use Rattle.seals.specs.Registers.{Pair, after}
use Rattle.seals.specs.Slots.{holdable}
use Rattle.seals.specs.Indexes.{slots_fit}

pub fits_full : (empty : ℕ) (place_of : List Pair → ℕ → Option ℕ) (n : ℕ) → empty ≡ 0 → slots_fit empty place_of [] n ≡ false
fits_full empty place_of n e = rw e

pub fits_some : (empty : ℕ) (place_of : List Pair → ℕ → Option ℕ) (n : ℕ) → 0 < empty → holdable (place_of [] n) ≡ true → slots_fit empty place_of [] n ≡ true
fits_some empty place_of n lt h = rw (h, lt-ltb 0 empty lt)

one_fewer : (n empty : ℕ) → 0 < empty → ltb n (empty - 1) ≡ ltb (suc n) empty
one_fewer n empty lt = grind (arith, nat_tests)

-- a slot and a place less
pub fits_after : (empty : ℕ) (p : Pair) (was is : List Pair → ℕ → Option ℕ) → 0 < empty → is ≡ after was p → slots_fit (empty - 1) is ≡ after (slots_fit empty was) p
fits_after empty p was is lt e = fun_ext (λ ps. fun_ext (λ n. rw (e, one_fewer (length ps) empty lt)))
