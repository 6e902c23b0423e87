-- The entries that were read are those that stand in the bodies.
use Rattle.std.proofs.Common.{◌≡◌, ℕ, zero, suc, ◌+◌, ◌*◌, ◌/◌, ◌<◌, ◌≤◌, Bool, true, false, not-suc-le-zero, ltb, drop-drop, List, ◌∷◌, length, take, drop, Some, None, Ok, Err, Option, Result, unwrap_or, sym, refl, ap, ◌∙◌, arith}
use Rattle.std.proofs.lemmas.List.{drop-take}
use Rattle.std.specs.List.{IsSplitAt, slice_get}
use Rattle.std.specs.Option.{ok_or}
use Rattle.wire.specs.declared.entry.LogEntry.{LogEntry}
use Rattle.wire.specs.declared.fault.ReadFault.{ReadFault}
use Rattle.wire.specs.declared.request.Request.{Request}
use Rattle.wire.specs.Bytes.{num}
use Rattle.wire.specs.Messages.{entry_in, entries_in}
use Rattle.wire.specs.Reading.{check, with, checked, parts_read, entry_read, entries_read}
use Rattle.wire.specs.Requests.{request, blank, request_or_blank}
use Rattle.wire.proofs.Cuts.{num-take}
use Rattle.wire.proofs.Steps.{accepted_is}

-- what went on was accepted
pub with_ok : {A B : Type 0} (r : Result A ReadFault) (rest : A → Result B ReadFault) (b : B) → with r rest ≡ Ok b → (a : A) × (r ≡ Ok a) × (rest a ≡ Ok b)
with_ok (Ok a) rest b e = (a, refl, e)
with_ok (Err f) rest b e = cc

pub check_ok : {A : Type 0} (test : Bool) (f : ReadFault) (r : Result A ReadFault) (a : A) → check test f r ≡ Ok a → (test ≡ true) × (r ≡ Ok a)
check_ok true f r a e = (refl, e)
check_ok false f r a e = cc

pub found_is : (o : Option Request) (f : ReadFault) (r : Request) → ok_or o f ≡ Ok r → unwrap_or o blank ≡ r
found_is None f r e = cc
found_is (Some q) f r e = cc

entry_found : (view place : ℕ) (bs : List ℕ) (e : LogEntry) → entry_read view place bs ≡ Ok e → entry_in bs ≡ e
entry_found view place bs e eq =
    let a = check_ok (ltb (num bs 0 4) view) _ _ e eq in
    let w = with_ok _ _ e a.1 in
    let f = found_is (request (num (drop 4 bs) 0 2) (num (drop 4 bs) 2 4) (num (drop 4 bs) 6 8)) _ w.0 w.1 in
    ap (λ (r : Request). record { view = num bs 0 4; request = r }) f ∙ cc

pub entries_found : (view place rows row : ℕ) (bs : List ℕ) (es : List LogEntry)
    → parts_read 18 (λ k. entry_read view (place + 18 * k)) rows row bs ≡ Ok es → entries_in rows bs ≡ es
entries_found view place zero row bs es eq = cc
entries_found view place (suc rows) row bs es eq =
    let a = with_ok (entry_read view (place + 18 * row) bs) _ es eq in
    let b = with_ok (parts_read 18 (λ k. entry_read view (place + 18 * k)) rows (suc row) (drop 18 bs)) _ es a.2 in
    let h = entry_found view _ bs a.0 a.1 in
    let t = entries_found view place rows (suc row) (drop 18 bs) b.0 b.1 in
    (λ i. h i ∷ t i) ∙ cc

-- entries that pass the check are those of the bodies
pub entries_are : (view rows place : ℕ) (bs : List ℕ) → length bs ≡ 18 * rows → checked (entries_read view (length bs / 18) place bs) ≡ Ok tt
    → entries_read view rows place bs ≡ Ok (entries_in (length bs / 18) bs)
entries_are view rows place bs long passes =
    let n : length bs / 18 ≡ rows = omega arith in
    let a = accepted_is (entries_read view (length bs / 18) place bs) passes in
    ap (λ (k : ℕ). entries_read view k place bs) (sym n) ∙ a.1 ∙ ap Ok (sym (entries_found view place (length bs / 18) 0 bs a.0 a.1))

-- an entry is decoded from its own bytes alone
entry_in_part : (bs : List ℕ) → entry_in (take 18 bs) ≡ entry_in bs
entry_in_part bs =
    let v = num-take 18 bs 0 4 (omega arith) in
    let rest = drop-take 4 14 bs in
    let c = ap (λ (part : List ℕ). num part 0 2) rest ∙ num-take 14 (drop 4 bs) 0 2 (omega arith) in
    let s = ap (λ (part : List ℕ). num part 2 4) rest ∙ num-take 14 (drop 4 bs) 2 4 (omega arith) in
    let w = ap (λ (part : List ℕ). num part 6 8) rest ∙ num-take 14 (drop 4 bs) 6 8 (omega arith) in
    λ i. record { view = v i; request = request_or_blank (c i) (s i) (w i) }

pub length_entries : (rows : ℕ) (bs : List ℕ) → length (entries_in rows bs) ≡ rows
length_entries zero bs = refl
length_entries (suc rows) bs = ap suc (length_entries rows (drop 18 bs))

-- the first entry that is left, and those after it
pub entries_first : (bs body rest : List ℕ) → IsSplitAt bs 18 body rest → entries_in (length bs / 18) bs ≡ entry_in body ∷ entries_in (length rest / 18) rest
entries_first bs body rest cut =
    let n : length bs / 18 ≡ suc (length rest / 18) = omega (arith, cut.4) in
    let first = ap entry_in cut.1 ∙ entry_in_part bs in
    ap (λ (k : ℕ). entries_in k bs) n ∙ sym (λ i. first i ∷ entries_in (length rest / 18) (cut.2 i))

-- the entry of a row
pub entry_at : (rows row : ℕ) (bs : List ℕ) → row < rows → slice_get (entries_in rows bs) row ≡ Some (entry_in (drop (18 * row) bs))
entry_at zero row bs within = absurd (not-suc-le-zero within)
entry_at (suc rows) zero bs within = refl
entry_at (suc rows) (suc row) bs within =
    entry_at rows row (drop 18 bs) (omega arith) ∙ ap (λ (l : List ℕ). Some (entry_in l)) (drop-drop (18 * row) 18 bs ∙ ap (λ (k : ℕ). drop k bs) (omega arith))

pub no_entry_past : (rows row : ℕ) (bs : List ℕ) → rows ≤ row → slice_get (entries_in rows bs) row ≡ None
no_entry_past zero row bs past = refl
no_entry_past (suc rows) zero bs past = absurd (not-suc-le-zero past)
no_entry_past (suc rows) (suc row) bs past = no_entry_past rows row (drop 18 bs) (omega arith)
