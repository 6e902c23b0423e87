-- Table and bodies that read are those of the statement that they read as.
use Rattle.std.proofs.Common.{◌≡◌, ℕ, zero, suc, ◌+◌, ◌*◌, ◌^◌, true, leb, List, [], ◌∷◌, ◌++◌, length, drop, None, Ok, sym, refl, ap, ◌∙◌, subst, arith, length-drop}
use Rattle.std.proofs.lemmas.List.{nil_from_length, drop_all}
use Rattle.std.proofs.lemmas.Bool.{eqb-true, lt-ltb}
use Rattle.wire.specs.declared.config.ClusterConfig.{ClusterConfig}
use Rattle.wire.specs.declared.entry.LogEntry.{LogEntry}
use Rattle.wire.specs.declared.kind.Kind.{Kind}
use Rattle.wire.specs.declared.kind.Kind.TheVariants.{Prepare, Commit, Doubt, Report, Closing, Reply}
use Rattle.wire.specs.declared.request.Request.{Request}
use Rattle.wire.specs.Bytes.{num, be, Bytes}
use Rattle.wire.specs.Kinds.{may_number, body_length, last_number}
use Rattle.wire.specs.Reading.{parts_read, row_read, request_read, entry_read, entries_read, may_close, bodies_read}
use Rattle.wire.specs.Statements.{Statement, prepare, commit, doubt, report, closing, reply, view_of}
use Rattle.wire.specs.Writing.{head_bytes, row_bytes, request_bytes, table_bytes, entry_bytes, entries_bytes, writing, late_entry, misfit_body}
use Rattle.wire.proofs.Digits.{be_num, num_lt}
use Rattle.wire.proofs.Exact.{bytes_drop, row_is, request_is_in, entry_is_in}
use Rattle.wire.proofs.Found.{with_ok, check_ok}

pub table_is : (rows row : ℕ) (bs : List ℕ) (all : List (Unit {0})) → Bytes bs → length bs ≡ 6 * rows → parts_read 6 (row_read Report) rows row bs ≡ Ok all → bs ≡ table_bytes rows (suc row)
table_is zero row bs all bytes long e = nil_from_length bs (omega arith)
table_is (suc rows) row bs all bytes long e =
    let a = with_ok (row_read Report row bs) _ all e in
    let b = with_ok (parts_read 6 (row_read Report) rows (suc row) (drop 6 bs)) _ all a.2 in
    let here = row_is Report row bs a.0 bytes (omega arith) a.1 in
    let n : num bs 0 4 ≡ suc row = eqb-true _ _ here.1 ∙ omega arith in
    let d = length-drop 6 bs in
    let rest = table_is rows (suc row) (drop 6 bs) b.0 (bytes_drop 6 bs bytes) (omega arith) b.1 in
    sym here.0 ∙ (λ i. row_bytes Report (n i) ++ rest i)

pub entries_are_in : (view place rows row offset : ℕ) (bs : List ℕ) (es : List LogEntry) → Bytes bs → length bs ≡ 18 * rows
    → parts_read 18 (λ k. entry_read view (place + 18 * k)) rows row bs ≡ Ok es
    → (bs ≡ entries_bytes es) × (length es ≡ rows) × (late_entry view offset es ≡ None)
entries_are_in view place zero row offset bs es bytes long e =
    let n : [] ≡ es = cc in
    (nil_from_length bs (omega arith) ∙ ap entries_bytes n, ap length (sym n), ap (late_entry view offset) (sym n))
entries_are_in view place (suc rows) row offset bs es bytes long e =
    let a = with_ok (entry_read view (place + 18 * row) bs) _ es e in
    let b = with_ok (parts_read 18 (λ k. entry_read view (place + 18 * k)) rows (suc row) (drop 18 bs)) _ es a.2 in
    let all : a.0 ∷ b.0 ≡ es = cc in
    let here = entry_is_in view (place + 18 * row) bs a.0 bytes (omega arith) a.1 in
    let d = length-drop 18 bs in
    let rest = entries_are_in view place rows (suc row) (offset + 18) (drop 18 bs) b.0 (bytes_drop 18 bs bytes) (omega arith) b.1 in
    let early = here.1 in
    let others = rest.2 in (
      sym here.0 ∙ ap (λ (x : List ℕ). entry_bytes a.0 ++ x) rest.0 ∙ ap entries_bytes all,
      ap length (sym all) ∙ ap suc rest.1,
      ap (late_entry view offset) (sym all) ∙ rw (early, others) refl,
    )

-- the parts of a message are those of a statement about its view, whose fields are in their ranges
pub record PartsOf (config : ClusterConfig) (kind : Kind) (h view rows : ℕ) (contents bodies : List ℕ) (s : Statement) : Type 0 where
  pub written : head_bytes kind h view rows ++ (contents ++ bodies) ≡ writing h s
  pub about : view_of s ≡ view
  pub fits : misfit_body config s ≡ None

module _ (config : ClusterConfig) (h view : ℕ) (contents bodies : List ℕ) (some : Bytes contents) (more : Bytes bodies) where
  -- the one row of a message
  one_row : (kind : Kind) (all : List (Unit {0})) → length contents ≡ 6 → parts_read 6 (row_read kind) 1 0 contents ≡ Ok all
      → (contents ≡ row_bytes kind (num contents 0 4)) × (may_number kind 0 (num contents 0 4) ≡ true)
  one_row kind all long e =
      let a = with_ok (row_read kind 0 contents) _ all e in
      let here = row_is kind 0 contents a.0 some (omega arith) a.1 in
      let none = drop_all 6 contents (omega arith) in
      (sym here.0 ∙ ap (λ (x : List ℕ). row_bytes kind (num contents 0 4) ++ x) none, here.1)

  -- what a message of one row reads as
  abbrev pub Kept : (kind : Kind) → Type 0
  Kept kind = (all : List (Unit {0})) (s : Statement) → length contents ≡ 6 → length bodies ≡ body_length kind → parts_read 6 (row_read kind) 1 0 contents ≡ Ok all
      → bodies_read config kind view 1 contents bodies ≡ Ok s → PartsOf config kind h view 1 contents bodies s

  request_alone : (r : Request) → length bodies ≡ 14 → request_read 13 bodies ≡ Ok r → bodies ≡ request_bytes r
  request_alone r long e = sym (request_is_in 13 bodies r more (omega arith) e) ∙ ap (λ (x : List ℕ). request_bytes r ++ x) (drop_all 14 bodies (omega arith))

  pub prepare_kept : Kept Prepare
  prepare_kept all s lc lb er eb =
      let row = one_row Prepare all lc er in
      let w = with_ok (request_read 13 bodies) _ s eb in
      let is : prepare view (num contents 0 4) w.0 ≡ s = cc in
      let body = request_alone w.0 lb w.1 in
      let t = row.1 in
      subst (PartsOf config Prepare h view 1 contents bodies) is
      (record { written = λ i. head_bytes Prepare h view 1 ++ (row.0 i ++ body i); about = refl; fits = rw t refl })

  pub commit_kept : Kept Commit
  commit_kept all s lc lb er eb =
      let row = one_row Commit all lc er in
      let w = with_ok (request_read 13 bodies) _ s eb in
      let is : commit view (num contents 0 4) w.0 ≡ s = cc in
      let body = request_alone w.0 lb w.1 in
      let t = row.1 in
      subst (PartsOf config Commit h view 1 contents bodies) is
      (record { written = λ i. head_bytes Commit h view 1 ++ (row.0 i ++ body i); about = refl; fits = rw t refl })

  pub reply_kept : Kept Reply
  reply_kept all s lc lb er eb =
      let row = one_row Reply all lc er in
      let w = with_ok (request_read 13 bodies) _ s eb in
      let is : reply view (num contents 0 4) w.0 (num bodies 14 8) ≡ s = cc in
      let outcome = be_num bodies 14 8 more (omega arith) in
      let body : bodies ≡ request_bytes w.0 ++ be 8 (num bodies 14 8) =
      sym (request_is_in 13 bodies w.0 more (omega arith) w.1)
      ∙ ap (λ (x : List ℕ). request_bytes w.0 ++ x) (sym outcome ∙ ap (λ (x : List ℕ). be 8 (num bodies 14 8) ++ x) (drop_all 22 bodies (omega arith))) in
      let t = row.1 in
      let small = lt-ltb (num bodies 14 8) (2 ^ 64) (num_lt bodies 14 8 more) in
      subst (PartsOf config Reply h view 1 contents bodies) is
      (record { written = λ i. head_bytes Reply h view 1 ++ (row.0 i ++ body i); about = refl; fits = rw (t, small) refl })

  pub closing_kept : Kept Closing
  closing_kept all s lc lb er eb =
      let row = one_row Closing all lc er in
      let n = eqb-true (num contents 0 4) 0 row.1 in
      let a = check_ok (may_close config (num bodies 0 2)) _ _ s eb in
      let is : closing view (num bodies 0 2) ≡ s = cc in
      let body : bodies ≡ be 2 (num bodies 0 2) =
      sym (be_num bodies 0 2 more (omega arith)) ∙ ap (λ (x : List ℕ). be 2 (num bodies 0 2) ++ x) (drop_all 2 bodies (omega arith)) in
      let t = a.0 in
      let table : contents ≡ row_bytes Closing 0 = row.0 ∙ ap (row_bytes Closing) n in
      subst (PartsOf config Closing h view 1 contents bodies) is
      (record { written = λ i. head_bytes Closing h view 1 ++ (table i ++ body i); about = refl; fits = rw t refl })

  pub doubt_kept : (s : Statement) → length contents ≡ 0 → length bodies ≡ 0 → bodies_read config Doubt view 0 contents bodies ≡ Ok s → PartsOf config Doubt h view 0 contents bodies s
  doubt_kept s lc lb eb =
      let is : doubt view ≡ s = cc in
      let c = nil_from_length contents lc in
      let b = nil_from_length bodies lb in
      subst (PartsOf config Doubt h view 0 contents bodies) is
      (record { written = λ i. head_bytes Doubt h view 0 ++ (c i ++ b i); about = refl; fits = refl })

  pub report_kept : (rows : ℕ) (all : List (Unit {0})) (s : Statement) → leb rows last_number ≡ true → length contents ≡ 6 * rows → length bodies ≡ 18 * rows
      → parts_read 6 (row_read Report) rows 0 contents ≡ Ok all → bodies_read config Report view rows contents bodies ≡ Ok s
      → PartsOf config Report h view rows contents bodies s
  report_kept rows all s few lc lb er eb =
      let table = table_is rows 0 contents all some lc er in
      let w = with_ok (entries_read view rows (7 + 6 * rows) bodies) _ s eb in
      let is : report view w.0 ≡ s = cc in
      let e = entries_are_in view (7 + 6 * rows) rows 0 (7 + 6 * length w.0) bodies w.0 more lb w.1 in
      let n = e.1 in
      let late = e.2 in
      let enough : leb (length w.0) last_number ≡ true = ap (λ (k : ℕ). leb k last_number) n ∙ few in
      subst (PartsOf config Report h view rows contents bodies) is
      (record {
        written = (λ i. head_bytes Report h view rows ++ (table i ++ e.0 i)) ∙ ap (λ (k : ℕ). head_bytes Report h view k ++ (table_bytes k 1 ++ entries_bytes w.0)) (sym n);
        about = refl;
        fits = rw (enough, late) refl;
      })
