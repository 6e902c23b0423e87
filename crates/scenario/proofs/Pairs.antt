-- Pairs of hexadecimal digits: one more pair read, and printed bytes read back.
use Rattle.std.proofs.Common.{◌≡◌, ℕ, zero, suc, ◌+◌, ◌*◌, ◌/◌, ◌%◌, ◌<◌, List, [], ◌∷◌, ◌++◌, length, get_or, drop, Some, None, Option, refl, ap, append_assoc, arith, rules}
use Rattle.std.proofs.lemmas.List.{at_drop_more}
use Rattle.std.proofs.lemmas.Bool.{lt-ltb}
use Rattle.std.proofs.lemmas.Grind.{common_steps}
use Rattle.std.specs.Option.{option_map}
use Rattle.std.specs.Simd.{first_chunks}
use Rattle.scenario.specs.Numbers.{after, digit_value, appended}
use Rattle.scenario.specs.Hex.{pair, bytes_of, glyph, ReadsBack}

-- the bytes that pairs of digits write
abbrev pub bytes_of_pairs : List (List ℕ) → Option (List ℕ)
bytes_of_pairs [] = Some []
bytes_of_pairs (digits ∷ pairs) = after (pair (get_or digits 0 0) (get_or digits 1 0)) (λ b. option_map (λ bs. b ∷ bs) (bytes_of_pairs pairs))

pub in_pairs : (k : ℕ) (word : List ℕ) → length word ≡ k * 2 → bytes_of_pairs (first_chunks 2 k word) ≡ bytes_of word
in_pairs zero [] even = refl
in_pairs zero (b ∷ word) even = absurd (omega arith)
in_pairs (suc k) [] even = absurd (omega arith)
in_pairs (suc k) (b ∷ []) even = absurd (omega arith)
in_pairs (suc k) (high ∷ low ∷ word) even = ap (λ (o : Option (List ℕ)). after (pair high low) (λ b. option_map (λ bs. b ∷ bs) o)) (in_pairs k word (omega arith))

-- an odd digit makes none
pub odd_digit : (k : ℕ) (word : List ℕ) → length word ≡ k * 2 + 1 → bytes_of word ≡ None
odd_digit k [] odd = absurd (omega arith)
odd_digit k (b ∷ []) odd = refl
odd_digit zero (high ∷ low ∷ word) odd = absurd (omega arith)
odd_digit (suc k) (high ∷ low ∷ word) odd = grind (arith, common_steps, odd_digit k word (omega arith))

-- a pair moves from the digits that are left to the bytes so far
pub one_more : (all : Option (List ℕ)) (pairs : List (List ℕ)) (i : ℕ) (sofar grown : List ℕ) (b : ℕ) → i < length pairs
    → Some b ≡ pair (get_or (get_or pairs i []) 0 0) (get_or (get_or pairs i []) 1 0) → grown ≡ sofar ++ (b ∷ [])
    → option_map (λ bs. sofar ++ bs) (bytes_of_pairs (drop i pairs)) ≡ all → option_map (λ bs. grown ++ bs) (bytes_of_pairs (drop (i + 1) pairs)) ≡ all
one_more all pairs i sofar grown b within is more inv =
    grind (arith, common_steps, at_drop_more bytes_of_pairs pairs i [] within, append_assoc {A = ℕ})

pub option_map-nil : (o : Option (List ℕ)) → option_map (λ bs. [] ++ bs) o ≡ o
option_map-nil None = refl
option_map-nil (Some bs) = refl

-- a printed digit stands for its value
glyph_value : (d : ℕ) → d < 16 → digit_value (glyph d) ≡ Some d
glyph_value d h = search rules

digit_back : (n d : ℕ) → d < 16 → appended 16 n (glyph d) ≡ Some (n * 16 + d)
digit_back n d h = rw (glyph_value d h, lt-ltb d 16 h)

pair_back : (b : ℕ) → b < 256 → pair (glyph (b / 16)) (glyph (b % 16)) ≡ Some b
pair_back b h = rw (digit_back 0 (b / 16) (omega arith), digit_back (0 * 16 + b / 16) (b % 16) (omega arith)) (ap (λ (n : ℕ). Some n) (omega arith))

pub reads_back : (bs : List ℕ) → ReadsBack bs
reads_back [] all = refl
reads_back (b ∷ bs) all = rw (pair_back b (all 0), reads_back bs (λ i. all (suc i)))
