-- Entries written one after another are read back, in their order.
use Rattle.std.proofs.Common.{◌≡◌, ℕ, zero, suc, ◌-◌, ◌≤◌, true, leb, List, [], ◌∷◌, ◌++◌, length, drop, Some, None, Option, sym, refl, ap, ◌∙◌, le_refl, subst, arith}
use Rattle.std.specs.List.{flat_map}
use Rattle.std.proofs.lemmas.Bool.{and_parts, leb-true, le-leb}
use Rattle.std.proofs.lemmas.List.Folds.{list_all-append}
use Rattle.std.proofs.lemmas.List.{length-drop, drop_at, flat_map_more}
use Rattle.std.specs.Option.{OnSome, IfNone}
use Rattle.seals.specs.declared.log.EntryLog.{EntryLog}
use Rattle.seals.specs.Registers.{Pair}
use Rattle.seals.specs.Logs.{used_bytes}
use Rattle.seals.specs.Layout.{packed, width, first, before, walked, entries, all_short, Whole}
use Rattle.seals.proofs.Packing.{first_packed, first_within}

-- two walks over the same bytes agree if they agree behind the first entry
alike : (bs : List ℕ) (f g : Pair → List Pair) (o : Option Pair) → first bs ≡ o → ((p : Pair) → first bs ≡ Some p → f p ≡ g p) → before o f ≡ before o g
alike bs f g None e k = refl
alike bs f g (Some p) e k = ap (λ ps. p ∷ ps) (k p e)

stops : (bs : List ℕ) (f : Pair → List Pair) (o : Option Pair) → first bs ≡ o → length bs ≤ 0 → before o f ≡ []
stops bs f None e le = refl
stops bs f (Some p) e le = absurd (omega (arith, first_within bs p e))

-- past the length of the bytes, more steps find no more entries
enough : (n m : ℕ) (bs : List ℕ) → length bs ≤ n → length bs ≤ m → walked n bs ≡ walked m bs
unfolding walked
enough zero zero bs p q = refl
enough zero (suc m) bs p q = sym (stops bs _ (first bs) refl p)
enough (suc n) zero bs p q = stops bs _ (first bs) refl q
enough (suc n) (suc m) bs p q =
    alike bs _ _ (first bs) refl
    (λ r e. let w = first_within bs r e in
    let d : length (drop (width r) bs) ≡ length bs - width r = length-drop (width r) bs in
    enough n m (drop (width r) bs) (omega arith) (omega arith))

one_more : (bs : List ℕ) → entries bs ≡ before (first bs) (λ p. walked (length bs) (drop (width p) bs))
unfolding walked
one_more bs = enough (length bs) (suc (length bs)) bs (le_refl _) (omega arith)

pub entries_none : (bs : List ℕ) → first bs ≡ None → entries bs ≡ []
entries_none bs e = one_more bs ∙ ap (λ o. before o (λ p. walked (length bs) (drop (width p) bs))) e

pub entries_some : (bs : List ℕ) (p : Pair) → first bs ≡ Some p → entries bs ≡ p ∷ entries (drop (width p) bs)
entries_some bs p e =
    let d : length (drop (width p) bs) ≡ length bs - width p = length-drop (width p) bs in
    one_more bs ∙ ap (λ o. before o (λ q. walked (length bs) (drop (width q) bs))) e
    ∙ ap (λ ps. p ∷ ps) (enough (length bs) (length (drop (width p) bs)) (drop (width p) bs) (omega arith) (le_refl _))

-- writing and then reading is the identity
pub entries_written : (ps : List Pair) → all_short ps ≡ true → entries (flat_map packed ps) ≡ ps
entries_written [] s = entries_none [] refl
entries_written (p ∷ ps) s =
    let k = and_parts (leb (length p.1) 65535) (all_short ps) s in
    let l : length (packed p) ≡ width p = omega arith in
    entries_some (packed p ++ flat_map packed ps) p (first_packed p (flat_map packed ps) (leb-true (length p.1) 65535 k.0))
    ∙ ap (λ bs. p ∷ entries bs) (drop_at (packed p) (flat_map packed ps) (width p) l) ∙ ap (λ qs. p ∷ qs) (entries_written ps k.1)

short_push : (ps : List Pair) (p : Pair) → all_short ps ≡ true → length p.1 ≤ 65535 → all_short (ps ++ p ∷ []) ≡ true
short_push ps p s le = rw (list_all-append, s, le-leb (length p.1) 65535 le)

-- an entry behind whole ones is the last of them
pub entries_push : (bs : List ℕ) (p : Pair) → Whole bs → length p.1 ≤ 65535 → entries (bs ++ packed p) ≡ entries bs ++ p ∷ []
entries_push bs p w le =
    ap (λ t. entries (t ++ packed p)) (sym w.0) ∙ ap entries (flat_map_more packed [] (entries bs) p)
    ∙ entries_written (entries bs ++ p ∷ []) (short_push (entries bs) p w.1 le)

pub whole_push : (bs : List ℕ) (p : Pair) → Whole bs → length p.1 ≤ 65535 → Whole (bs ++ packed p)
whole_push bs p w le =
    let e = entries_push bs p w le in (
      ap (flat_map packed) e ∙ sym (flat_map_more packed [] (entries bs) p) ∙ ap (λ t. t ++ packed p) w.0,
      ap all_short e ∙ short_push (entries bs) p w.1 le,
    )

pub whole_none : (bs : List ℕ) → bs ≡ [] → Whole bs
whole_none bs e =
    let n : entries bs ≡ [] = ap entries e ∙ entries_none [] refl in
    (ap (flat_map packed) n ∙ sym e, ap all_short n)

-- a log whose entries are whole has only whole entries after one is appended, or did not fit
pub whole_after : (l m : EntryLog) (p : Pair) (o : Option ℕ) → Whole (used_bytes l) → OnSome o (used_bytes m ≡ used_bytes l ++ packed p) → OnSome o (length p.1 ≤ 65535) → IfNone o (m ≡ l)
    → Whole (used_bytes m)
whole_after l m p None w packs short full = subst Whole (sym (ap used_bytes full)) w
whole_after l m p (Some offset) w packs short full = subst Whole (sym packs) (whole_push (used_bytes l) p w short)
