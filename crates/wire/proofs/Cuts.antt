-- A number in a part of the bytes is the number that stands there.
use Rattle.std.proofs.Common.{◌≡◌, ℕ, zero, suc, ◌+◌, ◌*◌, ◌^◌, ◌≤◌, List, take, drop, refl, ap, ◌∙◌, arith, get_or-drop}
use Rattle.std.proofs.lemmas.List.{get_or-take}
use Rattle.wire.specs.Bytes.{num}

pub num-take : (n : ℕ) (bs : List ℕ) (at w : ℕ) → at + w ≤ n → num (take n bs) at w ≡ num bs at w
num-take n bs at zero fits = refl
num-take n bs at (suc w) fits =
    let first = get_or-take n bs at 0 (omega arith) in
    let others = num-take n bs (suc at) w (omega arith) in
    λ i. first i * 256 ^ w + others i

pub num-drop : (n : ℕ) (bs : List ℕ) (at w : ℕ) → num (drop n bs) at w ≡ num bs (n + at) w
num-drop n bs at zero = refl
num-drop n bs at (suc w) =
    let first = get_or-drop n bs at 0 in
    let others = num-drop n bs (suc at) w ∙ ap (λ (k : ℕ). num bs k w) (omega arith) in
    λ i. first i * 256 ^ w + others i
