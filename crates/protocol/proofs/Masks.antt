-- The bits of a mask: one bit more, and the mask of a test.
use Rattle.std.proofs.Common.{◌≡◌, ℕ, zero, suc, ◌^◌, ◌<◌, Bool, ◌||◌, eqb, not-suc-le-zero, arith}
use lib.Bits.{bit_or}
use Rattle.std.proofs.lemmas.Bool.Decides.{nat_tests}
use Rattle.std.proofs.lemmas.Nat.{or_lt, pow_below}
use Rattle.std.proofs.lemmas.Nat.Bits.{bit_at_or, bit_at-pow_same, bit_at-pow_other, bit_at-lt, bit_at_above}
use Rattle.wire.specs.Counting.{count, names}
use Rattle.groups.proofs.Counting.{count_same}
use Rattle.protocol.specs.Selecting.{mask_of}

-- a mask with one replica more names it too
pub names_more : (mask g x : ℕ) → names (bit_or mask (2 ^ g)) x ≡ (names mask x || eqb g x)
names_more mask g x = grind (arith, nat_tests, bit_at_or mask (2 ^ g) x, bit_at-pow_same g, bit_at-pow_other g x, bit_at-lt mask x)

pub mask_small : (n : ℕ) (passes : ℕ → Bool) → mask_of n passes < 2 ^ n
mask_small zero passes = omega arith
mask_small (suc n) passes = grind (arith, mask_small n passes, pow_below n (suc n), or_lt (suc n) (mask_of n passes) (2 ^ n))

-- the mask of a test names what passes it
pub mask_names_passing : (n : ℕ) (passes : ℕ → Bool) (x : ℕ) → x < n → names (mask_of n passes) x ≡ passes x
mask_names_passing zero passes x l = absurd (not-suc-le-zero l)
mask_names_passing (suc n) passes x l =
    grind (
      arith,
      nat_tests,
      mask_names_passing n passes x,
      names_more (mask_of n passes) n x,
      bit_at_above (mask_of n passes) n n (mask_small n passes) (omega arith),
    )

pub mask_count : (n : ℕ) (passes : ℕ → Bool) → count n (names (mask_of n passes)) ≡ count n passes
mask_count n passes = count_same n (names (mask_of n passes)) passes (mask_names_passing n passes)
