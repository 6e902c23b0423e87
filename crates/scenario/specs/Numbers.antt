-- Numbers written by digits, the highest first.
use Rattle.std.specs.Prelude.{◌≡◌, ℕ, ◌+◌, ◌-◌, ◌*◌, Bool, cond, ◌&&◌, List, [], ◌∷◌, length, Some, None, Option, ◌==◌, nat_le, nat_lt, Result, MatchOption, IsNone}
use Rattle.std.specs.Result.{result_ok}
use Rattle.std.specs.Option.{option_map}

-- what is made of a value, if there is one
abbrev pub after : {X Y : Type 0} → Option X → (X → Option Y) → Option Y
after None f = None
after (Some x) f = f x

abbrev pub within : ℕ → ℕ → ℕ → Bool
within low high b = nat_le low b && nat_le b high

-- what a digit stands for: 0 to 9, A to F and a to f
abbrev pub digit_value : ℕ → Option ℕ
digit_value b =
    cond (within 48 57 b) (Some (b - 48)) (cond (within 65 70 b) (Some (b - 55)) (cond (within 97 102 b) (Some (b - 87)) None))

-- a digit of a base
abbrev pub digit_in : ℕ → ℕ → Option ℕ
digit_in base b = after (digit_value b) (λ d. cond (nat_lt d base) (Some d) None)

-- a number with one more digit behind it
abbrev pub appended : ℕ → ℕ → ℕ → Option ℕ
appended base n b = option_map (λ d. n * base + d) (digit_in base b)

-- a number with more digits behind it
abbrev pub continued : ℕ → ℕ → List ℕ → Option ℕ
continued base n [] = Some n
continued base n (b ∷ bs) = after (appended base n b) (λ m. continued base m bs)

-- the number that a word of digits writes
abbrev pub numeral : ℕ → List ℕ → Option ℕ
numeral base [] = None
numeral base (b ∷ bs) = continued base 0 (b ∷ bs)

-- a number that is not above a limit
abbrev pub up_to : ℕ → Option ℕ → Option ℕ
up_to most o = after o (λ n. cond (nat_le n most) (Some n) None)

-- a number that 64 bits hold
abbrev pub in_u64 : Option ℕ → Option ℕ
in_u64 o = up_to 18446744073709551615 o

-- r is what an answer that may be given holds
abbrev pub IsMade : {X E : Type 0} → (Result X E → Type 0) → Option X → Type 0
IsMade {X} {E} given r = (answer : Result X E) × given answer × (r ≡ result_ok answer)

-- r is what a conversion makes of a number, if there is one
abbrev pub IsConverted : {X E : Type 0} → (ℕ → Result X E → Type 0) → Option ℕ → Option X → Type 0
IsConverted gives o r = MatchOption o (IsNone r) (λ n. IsMade (gives n) r)

-- the work that 16 hexadecimal digits write
abbrev pub work_of : List ℕ → Option ℕ
work_of word = cond (length word == 16) (in_u64 (numeral 16 word)) None
