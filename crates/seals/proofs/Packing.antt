-- The entry at the front of bytes is read back, whatever follows it.
use Rattle.std.proofs.Common.{◌≡◌, ℕ, ◌+◌, ◌*◌, ◌/◌, ◌%◌, ◌≤◌, List, ◌++◌, length, get_or, take, drop, Some, sym, refl, ap, ◌∙◌, arith}
use Rattle.std.proofs.lemmas.Bool.{le-ltb}
use Rattle.std.proofs.lemmas.List.{length-append, length-drop, get_or_append_left, take_at, take-append-le, drop-append-le}
use Rattle.std.proofs.lemmas.Bool.Decides.{nat_tests}
use Rattle.std.proofs.lemmas.Grind.{common_steps}
use Rattle.seals.specs.Registers.{Pair}
use Rattle.seals.specs.Layout.{packed, width, size, first}

two_bytes : (n : ℕ) → n ≤ 65535 → (n / 256 % 256) * 256 + n % 256 ≡ n
two_bytes n h = omega arith

-- the pair that a front holds, whole or not
abbrev pub front : List ℕ → Pair
front bs = (get_or bs 0 0, take (size bs) (drop 3 bs))

pub first_some : (bs : List ℕ) → 3 + size bs ≤ length bs → first bs ≡ Some (front bs)
first_some bs le = rw (le-ltb (length bs) (3 + size bs) le)

pub first_whole : (bs : List ℕ) (p : Pair) → first bs ≡ Some p → (3 + size bs ≤ length bs) × (p ≡ front bs)
first_whole bs p e = grind (arith, nat_tests)

pub first_within : (bs : List ℕ) (p : Pair) → first bs ≡ Some p → width p ≤ length bs
first_within bs p e =
    let w = first_whole bs p e in
    let q : length p.1 ≡ length (take (size bs) (drop 3 bs)) = ap (λ (r : Pair). length r.1) w.1 in
    grind (arith, common_steps)

pub first_packed : (p : Pair) (rest : List ℕ) → length p.1 ≤ 65535 → first (packed p ++ rest) ≡ Some p
first_packed p rest le =
    let s : size (packed p ++ rest) ≡ length p.1 = two_bytes (length p.1) le in
    first_some (packed p ++ rest) (omega (arith, length-append p.1 rest)) ∙ rw (s, take_at p.1 rest (length p.1) refl)

-- more bytes behind a whole entry do not alter it
pub first_longer : (bs more : List ℕ) (p : Pair) → first bs ≡ Some p → first (bs ++ more) ≡ Some p
first_longer bs more p e =
    let w = first_whole bs p e in
    let h : 3 ≤ length bs = omega arith in
    let k : size bs ≤ length (drop 3 bs) = omega (arith, length-drop 3 bs) in
    let s : size (bs ++ more) ≡ size bs = rw (get_or_append_left bs more 0 1 (omega arith), get_or_append_left bs more 0 2 (omega arith)) in
    let f : front (bs ++ more) ≡ front bs = rw (s, get_or_append_left bs more 0 0 (omega arith), drop-append-le 3 bs more h, take-append-le (size bs) (drop 3 bs) more k) in
    first_some (bs ++ more) (omega (arith, length-append bs more)) ∙ ap Some (f ∙ sym w.1)
