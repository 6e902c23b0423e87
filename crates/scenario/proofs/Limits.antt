-- A number that is above a limit stays above it with more digits behind it.
use Rattle.std.proofs.Common.{◌≡◌, ℕ, ◌+◌, ◌*◌, ◌<◌, ◌≤◌, IfSome, if◌then◌else◌, nat_lt, List, [], ◌∷◌, length, get_or, drop, Some, None, Option, refl, mul-le-mul_left, arith}
use Rattle.std.proofs.lemmas.List.{at_drop_more}
use Rattle.std.proofs.lemmas.Bool.{lt-leb}
use Rattle.std.proofs.lemmas.Grind.{common_steps}
use Rattle.std.specs.Option.{option_map}
use Rattle.scenario.specs.Numbers.{after, digit_value, digit_in, appended, continued, numeral, up_to}

digit_below : (base b : ℕ) → IfSome (digit_in base b) (λ d. d < base)
digit_below base b = at (digit_value b)
  where
    at : (o : Option ℕ) → IfSome (after o (λ d. if nat_lt d base then Some d else None)) (λ d. d < base)
    at None = tt
    at (Some d) = grind (arith, common_steps)

too_large : (most base n : ℕ) (bs : List ℕ) → most < n → up_to most (continued base n bs) ≡ None
too_large most base n [] h = rw (lt-leb n most h)
too_large most base n (b ∷ bs) h = at (λ m l. too_large most base m bs l) (digit_in base b) (digit_below base b)
  where
    at : ((m : ℕ) → most < m → up_to most (continued base m bs) ≡ None) → (o : Option ℕ) → IfSome o (λ d. d < base)
        → up_to most (after (option_map (λ d. n * base + d) o) (λ m. continued base m bs)) ≡ None
    at ih None below = refl
    at ih (Some d) below = ih (n * base + d) (let l : 1 ≤ base = omega (arith, below) in omega (arith, mul-le-mul_left n l))

-- the limit may be asked at each digit
step : (most base n b : ℕ) (bs : List ℕ) → up_to most (continued base n (b ∷ bs)) ≡ after (up_to most (appended base n b)) (λ m. up_to most (continued base m bs))
step most base n b bs = at (appended base n b)
  where
    at : (o : Option ℕ) → up_to most (after o (λ m. continued base m bs)) ≡ after (up_to most o) (λ m. up_to most (continued base m bs))
    at None = refl
    at (Some m) = grind (arith, common_steps, too_large most base m bs)

pub numeral_some : (base : ℕ) (word : List ℕ) → 0 < length word → numeral base word ≡ continued base 0 word
numeral_some base [] h = absurd (omega arith)
numeral_some base (b ∷ bs) h = refl

-- the next digit of a word, asked under the limit
pub onward : (most base n : ℕ) (word : List ℕ) (i : ℕ) (o : Option ℕ) → i < length word → o ≡ up_to most (appended base n (get_or word i 0))
    → up_to most (continued base n (drop i word)) ≡ after o (λ m. up_to most (continued base m (drop (i + 1) word)))
onward most base n word i o l e =
    grind (arith, common_steps, at_drop_more (λ (bs : List ℕ). up_to most (continued base n bs)) word i 0 l, step most base n (get_or word i 0) (drop (i + 1) word))
