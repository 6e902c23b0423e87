-- The two laws of the wire format.
use Rattle.std.proofs.Common.{◌≡◌, ℕ, ◌*◌, ◌≤◌, true, eqb, ltb, leb, List, ◌∷◌, ◌++◌, length, get_or, take, drop, Some, None, Ok, Option, sym, refl, ap, ◌∙◌, subst, mul-add, arith, length-drop, take-append-drop, length-take-le, drop-cons, take_at, rules}
use Rattle.std.proofs.lemmas.Bool.{leb-true, eqb-true}
use Rattle.wire.specs.declared.config.ClusterConfig.{ClusterConfig}
use Rattle.wire.specs.declared.kind.Kind.{Kind}
use Rattle.wire.specs.declared.kind.Kind.TheVariants.{Prepare, Commit, Doubt, Report, Closing, Reply}
use Rattle.wire.specs.Bytes.{num, be, Bytes}
use Rattle.wire.specs.Configs.{replicas}
use Rattle.wire.specs.Kinds.{kind_of, kind_number, may_count, body_length, message_length, last_view}
use Rattle.wire.specs.Laws.{Fits, IsWriting, WrittenReads, ReadIsWritten}
use Rattle.wire.specs.Reading.{parts_read, row_read, bodies_read, contents_in, bodies_in, kind_read, reading}
use Rattle.wire.specs.Statements.{Statement, Said}
use Rattle.wire.specs.Writing.{head_bytes, writing, field, refused_at}
use Rattle.wire.proofs.Digits.{be_num}
use Rattle.wire.proofs.Exact.{bytes_drop, bytes_take}
use Rattle.wire.proofs.Found.{with_ok, check_ok}
use Rattle.wire.proofs.Kept.{PartsOf, prepare_kept, commit_kept, doubt_kept, report_kept, closing_kept, reply_kept}
use Rattle.wire.proofs.Written as written

pub written_reads : WrittenReads
written_reads = written.written_reads

-- the number of a kind that was read
number_of_kind : (n : ℕ) (kind : Kind) → kind_of n ≡ Some kind → n ≡ kind_number kind
number_of_kind n kind e = search (rules, kind_of)

-- a message is its head and the rest
head_is : (bs : List ℕ) (kind : Kind) → Bytes bs → 7 ≤ length bs → get_or bs 0 0 ≡ kind_number kind
    → head_bytes kind (get_or bs 1 0) (num bs 2 4) (get_or bs 6 0) ++ drop 7 bs ≡ bs
head_is bs kind bytes long e =
    ap (λ (k : ℕ). k ∷ get_or bs 1 0 ∷ (be 4 (num bs 2 4) ++ (get_or bs 6 0 ∷ drop 7 bs))) (sym e)
    ∙ ap (λ (x : List ℕ). get_or bs 0 0 ∷ get_or bs 1 0 ∷ (be 4 (num bs 2 4) ++ x)) (sym (drop-cons bs 6 0 (omega arith)))
    ∙ ap (λ (x : List ℕ). get_or bs 0 0 ∷ get_or bs 1 0 ∷ x) (be_num bs 2 4 bytes (omega arith))
    ∙ ap (λ (x : List ℕ). get_or bs 0 0 ∷ x) (sym (drop-cons bs 1 0 (omega arith)))
    ∙ sym (drop-cons bs 0 0 (omega arith))

module _ (config : ClusterConfig) (kind : Kind) (h view : ℕ) (contents bodies : List ℕ) (all : List (Unit {0})) (s : Statement) where
  -- parts of that many rows that read are those of the statement
  abbrev Keeps : ℕ → Type 0
  Keeps rows = length contents ≡ 6 * rows → length bodies ≡ rows * body_length kind → parts_read 6 (row_read kind) rows 0 contents ≡ Ok all
      → bodies_read config kind view rows contents bodies ≡ Ok s → PartsOf config kind h view rows contents bodies s

-- the parts that were read, by kind
parts_kept : (config : ClusterConfig) (kind : Kind) (h view rows : ℕ) (contents bodies : List ℕ) (all : List (Unit {0})) (s : Statement) → Bytes contents → Bytes bodies
    → may_count kind rows ≡ true → Keeps config kind h view contents bodies all s rows
parts_kept config Prepare h view rows contents bodies all s some more may =
    subst (Keeps config Prepare h view contents bodies all s) (sym (eqb-true rows 1 may)) (prepare_kept config h view contents bodies some more all s)
parts_kept config Commit h view rows contents bodies all s some more may =
    subst (Keeps config Commit h view contents bodies all s) (sym (eqb-true rows 1 may)) (commit_kept config h view contents bodies some more all s)
parts_kept config Doubt h view rows contents bodies all s some more may =
    subst (Keeps config Doubt h view contents bodies all s) (sym (eqb-true rows 0 may)) (λ lc lb er. doubt_kept config h view contents bodies some more s lc lb)
parts_kept config Report h view rows contents bodies all s some more may = λ lc lb. report_kept config h view contents bodies some more rows all s may lc (omega arith)
parts_kept config Closing h view rows contents bodies all s some more may =
    subst (Keeps config Closing h view contents bodies all s) (sym (eqb-true rows 1 may)) (closing_kept config h view contents bodies some more all s)
parts_kept config Reply h view rows contents bodies all s some more may =
    subst (Keeps config Reply h view contents bodies all s) (sym (eqb-true rows 1 may)) (reply_kept config h view contents bodies some more all s)

kept_by : (config : ClusterConfig) (bs : List ℕ) (m : Said) → Bytes bs → 7 ≤ length bs → (kind : Kind) → kind_of (get_or bs 0 0) ≡ Some kind → kind_read config (get_or bs 6 0) bs (Some kind) ≡ Ok m
    → (bs ≡ writing m.replica m.statement) × Fits config m.replica m.statement
kept_by config bs m bytes seven kind ek e =
    let h = get_or bs 1 0 in
    let view = num bs 2 4 in
    let rows = get_or bs 6 0 in
    let a = check_ok (may_count kind rows) _ _ m e in
    let b = check_ok (eqb (length bs) (message_length kind rows)) _ _ m a.1 in
    let c = check_ok (ltb h (replicas config)) _ _ m b.1 in
    let d = check_ok (leb view last_view) _ _ m c.1 in
    let table = with_ok (parts_read 6 (row_read kind) rows 0 (contents_in rows bs)) _ m d.1 in
    let states = with_ok (bodies_read config kind view rows (contents_in rows bs) (bodies_in rows bs)) _ m table.2 in
    let s = states.0 in
    let is : record { replica = h; statement = s } ≡ m = cc in
    let long = eqb-true _ _ b.0 in
    let product = mul-add rows 6 (body_length kind) in
    let tail = length-drop 7 bs in
    let lc = length-take-le (6 * rows) (drop 7 bs) (omega arith) in
    let lb = length-drop (6 * rows) (drop 7 bs) in
    let kept = parts_kept config kind h view rows (contents_in rows bs) (bodies_in rows bs) table.0 s (bytes_take (6 * rows) (drop 7 bs) (bytes_drop 7 bs bytes))
    (bytes_drop (6 * rows) (drop 7 bs) (bytes_drop 7 bs bytes)) a.0 lc (omega arith) table.1 states.1 in
    let whole = sym (head_is bs kind bytes seven (number_of_kind _ kind ek)) ∙ ap (λ (x : List ℕ). head_bytes kind h view rows ++ x) (sym (take-append-drop (6 * rows) (drop 7 bs))) ∙ kept.written in
    let t1 = c.0 in
    let t2 = ap (λ (k : ℕ). leb k last_view) kept.about ∙ d.0 in
    let t3 = kept.fits in
    let fits : Fits config h s = (λ i. field (t1 i) 1 (field (t2 i) 2 (t3 i))) in
    (whole ∙ ap (λ (m : Said). writing m.replica m.statement) is, subst (λ (m : Said). Fits config m.replica m.statement) is fits)

pub read_is_written : ReadIsWritten
read_is_written config bs m bytes e = go (kind_of (get_or bs 0 0)) refl a.1
  where
    a : (leb 7 (length bs) ≡ true) × (kind_read config (get_or bs 6 0) bs (kind_of (get_or bs 0 0)) ≡ Ok m)
    a = check_ok (leb 7 (length bs)) _ _ m e

    go : (o : Option Kind) → kind_of (get_or bs 0 0) ≡ o → kind_read config (get_or bs 6 0) bs o ≡ Ok m → IsWriting config bs m
    go None ek e' = cc
    go (Some kind) ek e' =
        let k = kept_by config bs m bytes (leb-true 7 _ a.0) kind ek e' in
        record {
          written = k.0;
          fits = k.1;
          alone = λ h s f w.
              let other : reading config bs ≡ Ok (record { replica = h; statement = s }) = ap (reading config) w ∙ written_reads config h s f in
              let same : Ok m ≡ Ok (record { replica = h; statement = s }) = sym e ∙ other in
              cc;
        }

-- what was not refused fits
pub fits_of : (o : Option ℕ) (u : Unit {0}) → refused_at o ≡ Ok u → o ≡ None
fits_of None u e = refl
fits_of (Some offset) u e = grind arith

-- what stands at the start of a buffer reads back
pub start_reads : (config : ClusterConfig) (h : ℕ) (s : Statement) (long : ℕ) (later buffer : List ℕ) → Fits config h s → length (writing h s) ≡ long
    → buffer ≡ writing h s ++ later → reading config (take long buffer) ≡ Ok (record { replica = h; statement = s })
start_reads config h s long later buffer fits whole start =
    ap (λ (x : List ℕ). reading config (take long x)) start ∙ ap (reading config) (take_at (writing h s) later long whole) ∙ written_reads config h s fits
