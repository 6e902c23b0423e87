-- How a text falls into lines and a line into words.
use Rattle.std.specs.Prelude.{◌≡◌, ℕ, ◌<◌, Bool, not, ◌||◌, List, [], length, take, drop, ◌==◌, Option, MatchOption}
use Rattle.std.specs.List.{prefix_len}
use denote.Ref.{Bor}

-- a space or a tab
abbrev pub blank : ℕ → Bool
blank b = b == 32 || b == 9

-- a byte of a word, and a byte of a line
abbrev pub in_word : ℕ → Bool
in_word b = not (blank b)

abbrev pub in_line : ℕ → Bool
in_line b = not (b == 10)

-- the bytes at the front of a text that pass a test, and the rest
abbrev pub front : (ℕ → Bool) → List ℕ → List ℕ
front p bs = take (prefix_len p bs) bs

abbrev pub behind : (ℕ → Bool) → List ℕ → List ℕ
behind p bs = drop (prefix_len p bs) bs

-- a line is what comes before the first end of a line, and the text goes on behind that end; an empty text has none
abbrev pub NextLine : List ℕ → Option (Bor (List ℕ)) → List ℕ → Type 0
NextLine text line rest =
    MatchOption line ((text ≡ []) × (rest ≡ [])) (λ l. (0 < length text) × (l.now ≡ front in_line text) × (rest ≡ drop 1 (behind in_line text)))

-- a word is what stands behind blanks and before the next blank; a line of blanks has none
abbrev pub NextWord : List ℕ → Option (Bor (List ℕ)) → List ℕ → Type 0
NextWord line word rest =
    MatchOption word ((behind blank line ≡ []) × (rest ≡ [])) (λ w.
    (0 < length (behind blank line)) × (w.now ≡ front in_word (behind blank line)) × (rest ≡ behind in_word (behind blank line)))
