-- The front of a text, and what is behind it.
use Rattle.std.proofs.Common.{◌≡◌, ◌<◌, ℕ, Bool, not, List, [], ◌∷◌, length, Option, position, unwrap_or, refl, ap, arith, length-drop}
use Rattle.std.specs.List.{prefix_len}
use Rattle.std.proofs.lemmas.Grind.{common_steps}
use Rattle.std.proofs.lemmas.List.{nil_from_length}
use Rattle.std.proofs.lemmas.List.Folds.{length-prefix_len}
use Rattle.std.proofs.lemmas.List.Sums.{prefix_len-le-length, prefix_len-drop_yes, prefix_len_stops}
use Rattle.scenario.specs.Classes.{blank, in_word, front, behind}

prefix_len-not_not : (p : ℕ → Bool) (xs : List ℕ) → prefix_len (λ x. not (not (p x))) xs ≡ prefix_len p xs
prefix_len-not_not p [] = refl
prefix_len-not_not p (x ∷ xs) = grind (arith, common_steps, prefix_len-not_not p xs)

-- a front ends at the first byte that fails, or else with the text
pub front_len_is : (p : ℕ → Bool) (xs : List ℕ) (found : Option ℕ) (len : ℕ) → len ≡ unwrap_or found (length xs) → found ≡ position (λ x. not (p x)) xs → len ≡ prefix_len p xs
front_len_is p xs found len or is = grind (arith, common_steps, prefix_len-le-length p xs, prefix_len-not_not p xs)

-- behind blanks is a word, or nothing
pub no_word : (line : List ℕ) → length (front in_word (behind blank line)) ≡ 0 → behind blank line ≡ []
no_word line none =
    let more : prefix_len blank line < length line → ⊥ = λ l.
    absurd (omega (arith, prefix_len-drop_yes in_word line (prefix_len blank line) 0 l (ap not (prefix_len_stops blank line 0 l)), length-prefix_len in_word (behind blank line))) in
    nil_from_length (behind blank line) (omega (arith, more, length-drop {A = ℕ}))
