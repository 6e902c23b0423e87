-- Numbers and their bytes are inverse: what is written of a number reads as it, and bytes are those of the number that they read as.
use Rattle.std.proofs.Common.{◌≡◌, ℕ, zero, suc, ◌+◌, ◌*◌, ◌/◌, ◌%◌, ◌^◌, ◌<◌, ◌≤◌, List, ◌∷◌, ◌++◌, length, get_or, drop, sym, refl, ap, ◌∙◌, add-zero, mod-lt, mod-eq_of_lt, mul_comm, pow-suc, arith, drop-cons}
use Rattle.std.proofs.Math.Nat.{one-le-pow}
use lib.Arith.{digits_lt, digits_div, digits_mod, mod-mul}
use Rattle.wire.specs.Bytes.{num, be, Bytes}

pub num_cons : (b : ℕ) (bs : List ℕ) (at w : ℕ) → num (b ∷ bs) (suc at) w ≡ num bs at w
num_cons b bs at zero = refl
num_cons b bs at (suc w) = ap (λ (k : ℕ). get_or bs at 0 * 256 ^ w + k) (num_cons b bs (suc at) w)

power : (w : ℕ) → 256 ^ suc w ≡ 256 * 256 ^ w
power w = pow-suc 256 w ∙ mul_comm (256 ^ w) 256

positive : (w : ℕ) → 0 < 256 ^ w
positive w = one-le-pow w 256 (omega arith)

-- the lowest digit of w + 1, and the w digits below it
split : (x w : ℕ) → x % 256 ^ suc w ≡ (x / 256 ^ w % 256) * 256 ^ w + x % 256 ^ w
split x w = ap (λ (k : ℕ). x % k) (power w) ∙ mod-mul x {m = 256} {c = 256 ^ w} (omega arith) (positive w)

num_be_mod : (w x : ℕ) (rest : List ℕ) → num (be w x ++ rest) 0 w ≡ x % 256 ^ w
num_be_mod zero x rest = omega arith
num_be_mod (suc w) x rest =
    ap (λ (k : ℕ). (x / 256 ^ w % 256) * 256 ^ w + k) (num_cons _ (be w x ++ rest) 0 w ∙ num_be_mod w x rest) ∙ sym (split x w)

-- what is written of a number reads as it
pub num_be : (w x : ℕ) (rest : List ℕ) → x < 256 ^ w → num (be w x ++ rest) 0 w ≡ x
num_be w x rest small = num_be_mod w x rest ∙ mod-eq_of_lt small

pub num_lt : (bs : List ℕ) (at w : ℕ) → Bytes bs → num bs at w < 256 ^ w
num_lt bs at zero bytes = omega arith
num_lt bs at (suc w) bytes = rw power (digits_lt (bytes at) (num_lt bs (suc at) w bytes))

-- the digits of a number below 256 ^ w
digits_same : (w x y : ℕ) → x % 256 ^ w ≡ y % 256 ^ w → be w x ≡ be w y
digits_same zero x y e = refl
digits_same (suc w) x y e =
    let same : (x / 256 ^ w % 256) * 256 ^ w + x % 256 ^ w ≡ (y / 256 ^ w % 256) * 256 ^ w + y % 256 ^ w = sym (split x w) ∙ e ∙ split y w in
    let lx = mod-lt x {m = 256 ^ w} (positive w) in
    let ly = mod-lt y {m = 256 ^ w} (positive w) in
    let high = sym (digits_div (x / 256 ^ w % 256) lx) ∙ ap (λ (k : ℕ). k / 256 ^ w) same ∙ digits_div (y / 256 ^ w % 256) ly in
    let low = sym (digits_mod (x / 256 ^ w % 256) lx) ∙ ap (λ (k : ℕ). k % 256 ^ w) same ∙ digits_mod (y / 256 ^ w % 256) ly in
    λ i. high i ∷ digits_same w x y low i

-- bytes are those of the number that they read as
pub be_num : (bs : List ℕ) (at w : ℕ) → Bytes bs → at + w ≤ length bs → be w (num bs at w) ++ drop (at + w) bs ≡ drop at bs
be_num bs at zero bytes fits = ap (λ (k : ℕ). drop k bs) (add-zero at)
be_num bs at (suc w) bytes fits =
    let b = get_or bs at 0 in
    let n = num bs (suc at) w in
    let l = num_lt bs (suc at) w bytes in
    let first : (b * 256 ^ w + n) / 256 ^ w % 256 ≡ b = ap (λ (k : ℕ). k % 256) (digits_div b l) ∙ mod-eq_of_lt (bytes at) in
    let others : be w (b * 256 ^ w + n) ≡ be w n = digits_same w (b * 256 ^ w + n) n (digits_mod b l ∙ sym (mod-eq_of_lt l)) in
    (λ i. first i ∷ (others i ++ drop (at + suc w) bs))
    ∙ ap (λ (k : ℕ). b ∷ (be w n ++ drop k bs)) (omega arith)
    ∙ ap (λ (l : List ℕ). b ∷ l) (be_num bs (suc at) w bytes (omega arith))
    ∙ sym (drop-cons bs at 0 (omega arith))
