-- Pieces put into a buffer, one right after another.
use Rattle.std.proofs.Common.{◌≡◌, ℕ, zero, suc, ◌+◌, ◌≤◌, ◌/◌, ◌%◌, ◌^◌, List, [], ◌∷◌, ◌++◌, length, take, drop, sym, refl, ap, ◌∙◌, append_assoc, arith, length-append, length-take-le, drop-drop, take_at}
use lib.Seq.{drop-append-add}
use Rattle.std.proofs.Math.Nat.{div-one}
use Rattle.std.specs.Int.{bytes_high_first}
use Rattle.wire.specs.Buffers.{over}
use Rattle.wire.specs.Bytes.{be}

-- bytes written right after bytes are both written at once
pub over_over : (at : ℕ) (ys zs out : List ℕ) → at + length ys ≤ length out → over (at + length ys) zs (over at ys out) ≡ over at (ys ++ zs) out
over_over at ys zs out fits =
    let n = at + length ys in
    let p = take at out in
    let r = drop n out in
    let long : length (p ++ ys) ≡ n = length-append p ys ∙ ap (λ (k : ℕ). k + length ys) (length-take-le at out (omega arith)) in
    let whole : over at ys out ≡ (p ++ ys) ++ r = sym (append_assoc p ys r) in
    let front : take n ((p ++ ys) ++ r) ≡ p ++ ys = take_at (p ++ ys) r n long in
    let back : drop (n + length zs) ((p ++ ys) ++ r) ≡ drop (n + length zs) out =
    ap (λ (k : ℕ). drop (k + length zs) ((p ++ ys) ++ r)) (sym long) ∙ drop-append-add (p ++ ys) r (length zs) ∙ drop-drop (length zs) n out in
    let ends : n + length zs ≡ at + length (ys ++ zs) = omega (arith, length-append ys zs) in
    ap (over n zs) whole
    ∙ (λ i. front i ++ (zs ++ back i))
    ∙ append_assoc p ys (zs ++ drop (n + length zs) out)
    ∙ ap (λ (k : List ℕ). p ++ k) (sym (append_assoc ys zs (drop (n + length zs) out)))
    ∙ ap (λ (k : ℕ). p ++ ((ys ++ zs) ++ drop k out)) ends

high_first : (w n : ℕ) → bytes_high_first w n ≡ be w n
high_first zero n = refl
high_first (suc zero) n = ap (λ (k : ℕ). k % 256 ∷ []) (sym (div-one n))
high_first (suc (suc w)) n = ap (λ (l : List ℕ). n / 256 ^ suc w % 256 ∷ l) (high_first (suc w) n)

-- the bytes of a number, as the library writes them
pub put_number : (w n at : ℕ) (bytes out out' : List ℕ) → bytes ≡ bytes_high_first w n → out' ≡ over at bytes out → out' ≡ over at (be w n) out
put_number w n at bytes out out' number put = put ∙ ap (λ (l : List ℕ). over at l out) (number ∙ high_first w n)

-- bytes put right after bytes
pub put_after : (at : ℕ) (ys zs out out' out'' : List ℕ) → at + length ys ≤ length out → out' ≡ over at ys out → out'' ≡ over (at + length ys) zs out' → out'' ≡ over at (ys ++ zs) out
put_after at ys zs out out' out'' fits first second = second ∙ ap (over (at + length ys) zs) first ∙ over_over at ys zs out fits
