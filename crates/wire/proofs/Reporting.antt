-- A report, one row more: the views that were checked, the table and the bodies that were written.
use Rattle.std.proofs.Common.{◌≡◌, ℕ, zero, suc, ◌+◌, ◌*◌, ◌<◌, ◌≤◌, List, [], ◌∷◌, ◌++◌, length, get_or, take, drop, sym, refl, ap, ◌∙◌, add-zero, add-one, arith, take-append-drop}
use Rattle.std.proofs.lemmas.List.{take_more, length-take-le}
use Rattle.std.specs.List.{position_from}
use Rattle.std.specs.Option.{option_map}
use Rattle.std.specs.Prelude.{nat_le}
use Rattle.wire.specs.declared.entry.LogEntry.{LogEntry}
use Rattle.wire.specs.declared.kind.Kind.TheVariants.{Report}
use Rattle.wire.specs.Buffers.{over}
use Rattle.wire.specs.Writing.{row_bytes, table_bytes, entry_bytes, entries_bytes, late_entry}
use Rattle.wire.proofs.Putting.{over_over}

-- the first late entry stands at the offset of its row
pub late_from : (view offset i : ℕ) (es : List LogEntry)
    → late_entry view (offset + 18 * i) es ≡ option_map (λ row. offset + 18 * row) (position_from (λ e. nat_le view e.view) i es)
late_from view offset i [] = refl
late_from view offset i (e ∷ es) = let h = late_from view offset (i + 1) es in grind arith

pub over_none : (at : ℕ) (out : List ℕ) → over at [] out ≡ out
over_none at out = ap (λ (k : ℕ). take at out ++ drop k out) (add-zero at) ∙ take-append-drop at out

pub table_length : (rows number : ℕ) → length (table_bytes rows number) ≡ 6 * rows
table_length zero number = refl
table_length (suc rows) number = let h = table_length rows (suc number) in omega arith

table_snoc : (rows number : ℕ) → table_bytes rows number ++ row_bytes Report (number + rows) ≡ table_bytes (suc rows) number
table_snoc zero number = ap (row_bytes Report) (add-zero number)
table_snoc (suc rows) number =
    ap (λ (l : List ℕ). row_bytes Report number ++ l)
    (ap (λ (k : ℕ). table_bytes rows (suc number) ++ row_bytes Report k) (omega arith) ∙ table_snoc rows (suc number))

pub table_more : (row : ℕ) (out : List ℕ) → 7 + 6 * (row + 1) ≤ length out
    → over (7 + 6 * row) (row_bytes Report (row + 1)) (over 7 (table_bytes row 1) out) ≡ over 7 (table_bytes (row + 1) 1) out
table_more row out fits =
    let long = table_length row 1 in
    ap (λ (k : ℕ). over k (row_bytes Report (row + 1)) (over 7 (table_bytes row 1) out)) (omega arith)
    ∙ over_over 7 (table_bytes row 1) (row_bytes Report (row + 1)) out (omega arith)
    ∙ ap (λ (l : List ℕ). over 7 l out) (ap (λ (k : ℕ). table_bytes row 1 ++ row_bytes Report k) (omega arith) ∙ table_snoc row 1 ∙ ap (λ (k : ℕ). table_bytes k 1) (sym (add-one row)))

pub entries_length : (es : List LogEntry) → length (entries_bytes es) ≡ 18 * length es
entries_length [] = refl
entries_length (e ∷ es) = let h = entries_length es in omega arith

entries_append : (xs ys : List LogEntry) → entries_bytes (xs ++ ys) ≡ entries_bytes xs ++ entries_bytes ys
entries_append [] ys = refl
entries_append (x ∷ xs) ys = ap (λ (l : List ℕ). entry_bytes x ++ l) (entries_append xs ys)

pub entries_more : (at row : ℕ) (es : List LogEntry) (d : LogEntry) (out : List ℕ) → row < length es → at + 18 * length es ≤ length out
    → over (at + 18 * row) (entry_bytes (get_or es row d)) (over at (entries_bytes (take row es)) out) ≡ over at (entries_bytes (take (row + 1) es)) out
entries_more at row es d out within fits =
    let some = entries_bytes (take row es) in
    let long : length some ≡ 18 * row = entries_length (take row es) ∙ ap (λ (k : ℕ). 18 * k) (length-take-le row es (omega arith)) in
    ap (λ (k : ℕ). over k (entry_bytes (get_or es row d)) (over at some out)) (omega arith)
    ∙ over_over at some (entry_bytes (get_or es row d)) out (omega arith)
    ∙ ap (λ (l : List ℕ). over at l out) (sym (entries_append (take row es) (get_or es row d ∷ [])) ∙ ap entries_bytes (sym (take_more es row d within)))
