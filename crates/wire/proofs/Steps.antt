-- Checking equal parts in order: the first that is refused, or none.
use Rattle.std.proofs.Common.{◌≡◌, ℕ, suc, ◌+◌, ◌*◌, ◌/◌, ◌<◌, ◌≤◌, eqb, ltb, List, [], ◌∷◌, length, take, drop, Some, None, Ok, Err, Option, Result, MatchOption, sym, refl, ap, ◌∙◌, subst, add-one, mul-add, arith, length-append, take_at, drop_at}
use Rattle.std.proofs.Math.Nat.{div-eq_of_lt, add-div_left}
use Rattle.std.proofs.lemmas.List.{drop-take}
use Rattle.std.specs.Option.{ok_or}
use Rattle.std.specs.Iterator.{Yields, YieldsThen, CallableAtEachTurn}
use Rattle.std.specs.Iterator.Adapters.{enumerate_source, enumerate_count, enumerate_steps}
use Rattle.std.specs.declared.iter.Enumerate.{Enumerate}
use Rattle.std.specs.declared.slice.ChunksExact.{ChunksExact}
use Rattle.std.specs.List.{FoldsTo}
use Rattle.std.specs.Slice.Iter.{chunks_exact_rest, chunks_exact_size, chunks_exact_steps}
use denote.Ref.{Bor}
use Rattle.wire.specs.declared.fault.ReadFault.{ReadFault}
use Rattle.wire.specs.declared.fault.ReadFault.TheVariants.{Field}
use Rattle.wire.specs.declared.kind.Kind.{Kind}
use Rattle.wire.specs.Kinds.{may_number, body_length}
use Rattle.wire.specs.Reading.{check, with, checked, parts_read, row_read, request_read, entry_read}
use Rattle.wire.specs.Requests.{request}
use Rattle.wire.proofs.Cuts.{num-take}

checked_rest : {A : Type 0} (a : A) (r : Result (List A) ReadFault) → checked (with r (λ others. Ok (a ∷ others))) ≡ checked r
checked_rest a (Ok others) = refl
checked_rest a (Err f) = refl

refused_is : {A : Type 0} (r : Result A ReadFault) (f : ReadFault) → checked r ≡ Err f → r ≡ Err f
refused_is (Ok a) f e = cc
refused_is (Err g) f e = cc

pub accepted_is : {A : Type 0} (r : Result A ReadFault) → checked r ≡ Ok tt → (a : A) × (r ≡ Ok a)
accepted_is (Ok a) e = (a, refl)
accepted_is (Err g) e = cc

abbrev Item : Type 0
Item = ℕ × Bor (List ℕ)

-- the parts of one length that are left, and how many came before
abbrev Parts : Type 0
Parts = Enumerate (ChunksExact ℕ)

abbrev left : Parts → List ℕ
left s = chunks_exact_rest (enumerate_source s)

abbrev steps : Parts → Option Item → Parts → Type 0
steps = enumerate_steps (chunks_exact_steps {A = ℕ})

module _ (part : ℕ) where
  -- each item is one part, and lies within the bytes
  item_within : (xs : List Item) (s t u : Parts) (x : Item) → chunks_exact_size (enumerate_source s) ≡ part → Yields steps s xs t → steps t (Some x) u
      → (length x.1.now ≡ part) × (part * x.0 + part ≤ part * enumerate_count s + length (left s))
  item_within [] s t u x size here step =
      let n : length x.1.now ≡ part = step.0.1.1 ∙ ap (λ (r : Parts). chunks_exact_size (enumerate_source r)) (sym here) ∙ size in
      let cut = ap (λ (r : Parts). length (left r)) here ∙ ap length step.0.1.0 ∙ length-append x.1.now (left u) in
      let place = ap (λ (k : ℕ). part * k) (step.1 ∙ ap (λ (r : Parts). enumerate_count r) (sym here)) in
      (n, omega arith)
  item_within (y ∷ ys) s t u x size more step =
      let first = more.1 in
      let size' : chunks_exact_size (enumerate_source more.0) ≡ part = first.0.0 ∙ size in
      let rest = item_within ys more.0 t u x size' more.2 step in
      let n : length y.1.now ≡ part = first.0.1.1 ∙ size in
      let cut = ap length first.0.1.0 ∙ length-append y.1.now (left more.0) in
      let place = ap (λ (k : ℕ). part * k) first.2 ∙ mul-add part (enumerate_count s) 1 in
      (rest.0, omega arith)

  module _ {F : Type 0} (R : F → Item → F → Type 0) (f : F) where
    stays : ((x : Item) (q : F) → R f x q → q ≡ f) → (xs : List Item) (q : F) → FoldsTo R f xs q → q ≡ f
    stays keeps [] q e = sym e
    stays keeps (x ∷ xs) q e = stays keeps xs q (subst (λ (p : F). FoldsTo R p xs q) (keeps x e.0 e.1) e.2)

    -- what may be called at each part within the bytes may be called in each turn
    pub callable : {Q : F → Item → Type 0} (s : Parts) (bs : List ℕ) → chunks_exact_size (enumerate_source s) ≡ part → enumerate_count s ≡ 0 → left s ≡ bs
        → ((x : Item) (q : F) → R f x q → q ≡ f) → ((x : Item) → length x.1.now ≡ part → part * x.0 + part ≤ length bs → Q f x) → CallableAtEachTurn steps R Q s f
    callable {Q} s bs size none all keeps takes = record {
      at = λ xs t q x u yields folds step.
          let w = item_within xs s t u x size yields step in
          let zero = ap (λ (k : ℕ). part * k) none in
          let whole = ap length all in
          subst (λ (p : F). Q p x) (sym (stays keeps xs q folds)) (takes x w.0 (omega arith));
    }

    module _ {A : Type 0} (read : ℕ → List ℕ → Result A ReadFault) (r : Result (Unit {0}) ReadFault) (positive : 0 < part)
        (alone : (row : ℕ) (bs : List ℕ) → part ≤ length bs → read row (take part bs) ≡ read row bs)
        (goes : (x : Item) (q : F) → R f x q → (q ≡ f) × (checked (read x.0 x.1.now) ≡ Ok tt)) where
      -- a part that comes stands at the front of what was left
      front : (s t : Parts) (x : Item) → chunks_exact_size (enumerate_source s) ≡ part → steps s (Some x) t
          → (read x.0 x.1.now ≡ read (enumerate_count s) (left s)) × (drop part (left s) ≡ left t) × (length (left s) / part ≡ suc (length (left t) / part))
      front s t x size step =
          let n : length x.1.now ≡ part = step.0.1.1 ∙ size in
          let cut = step.0.1.0 in
          let here : x.1.now ≡ take part (left s) = sym (take_at x.1.now (left t) part n) ∙ ap (take part) (sym cut) in
          let total : length (left s) ≡ part + length (left t) = ap length cut ∙ length-append x.1.now (left t) ∙ ap (λ (k : ℕ). k + length (left t)) n in (
            (λ i. read (step.1 i) (here i)) ∙ alone _ _ (omega arith),
            ap (drop part) cut ∙ drop_at x.1.now (left t) part n,
            ap (λ (k : ℕ). k / part) total ∙ add-div_left (length (left t)) positive ∙ omega arith,
          )

      module _ (End : Type 0) (Stop : F → Item → Type 0) (ends : End → r ≡ Ok tt)
          (stops : (x : Item) → Stop f x → (fault : ReadFault) × (r ≡ Err fault) × (checked (read x.0 x.1.now) ≡ Err fault)) where
        checked_from : (xs : List Item) (o : Option Item) (q : F) (s u : Parts) → chunks_exact_size (enumerate_source s) ≡ part
            → YieldsThen steps s xs o u → FoldsTo R f xs q → MatchOption o End (Stop q)
            → r ≡ checked (parts_read part read (length (left s) / part) (enumerate_count s) (left s))
        checked_from [] None q s u size run folds end =
            let here = run.1 in
            let short : length (left s) < part = subst (λ (k : ℕ). length (left s) < k) size (subst (λ (p : Parts). length (left p) < chunks_exact_size (enumerate_source p)) (sym here) run.2.0.1.0) in
            let none = div-eq_of_lt short in
            rw none (ends end)
        checked_from [] (Some x) q s u size run folds end =
            let step : steps s (Some x) u = subst (λ (p : Parts). steps p (Some x) u) (sym run.1) run.2 in
            let p = front s u x size step in
            let e = stops x (subst (λ (p : F). Stop p x) (sym folds) end) in
            let bad = sym p.0 ∙ refused_is (read x.0 x.1.now) e.0 e.2 in
            let more = p.2 in
            e.1 ∙ rw (more, bad) refl
        checked_from (x ∷ xs) o q s u size run folds end =
            let step = run.1.1 in
            let p = front s run.1.0 x size step in
            let g = goes x folds.0 folds.1 in
            let a = accepted_is (read x.0 x.1.now) g.1 in
            let good = sym p.0 ∙ a.1 in
            let more = p.2 in
            let size' : chunks_exact_size (enumerate_source run.1.0) ≡ part = step.0.0 ∙ size in
            let rest = checked_from xs o q run.1.0 u size' (run.0, run.1.2, run.2) (subst (λ (p : F). FoldsTo R p xs q) g.0 folds.2) end in
            let next = step.2 ∙ add-one (enumerate_count s) in
            let others : parts_read part read (length (left run.1.0) / part) (enumerate_count run.1.0) (left run.1.0)
            ≡ parts_read part read (length (left run.1.0) / part) (suc (enumerate_count s)) (drop part (left s)) = λ i. parts_read part read (length (left run.1.0) / part) (next i) (sym p.1 i) in
            rest ∙ ap checked others ∙ sym (checked_rest a.0 (parts_read part read (length (left run.1.0) / part) (suc (enumerate_count s)) (drop part (left s)))) ∙ (rw (more, good) refl)

      -- what the turns over all parts answer
      pub checked_is : {End : Type 0} {Stop : F → Item → Type 0} (ends : End → r ≡ Ok tt)
          (stops : (x : Item) → Stop f x → (fault : ReadFault) × (r ≡ Err fault) × (checked (read x.0 x.1.now) ≡ Err fault))
          (s u : Parts) (bs : List ℕ) → chunks_exact_size (enumerate_source s) ≡ part → enumerate_count s ≡ 0 → left s ≡ bs
          → ((xs : List Item) × (o : Option Item) × (q : F) × YieldsThen steps s xs o u × FoldsTo R f xs q × MatchOption o End (Stop q))
          → r ≡ checked (parts_read part read (length bs / part) 0 bs)
      checked_is {End} {Stop} ends stops s u bs size none all ran =
          checked_from End Stop ends stops ran.0 ran.1 ran.2 s u size ran.3 ran.4 ran.5
          ∙ (λ i. checked (parts_read part read (length (all i) / part) (none i) (all i)))

-- a row and an entry are read from their own bytes alone
pub row_alone : (kind : Kind) (row : ℕ) (bs : List ℕ) → 6 ≤ length bs → row_read kind row (take 6 bs) ≡ row_read kind row bs
row_alone kind row bs fits =
    let n = num-take 6 bs 0 4 (omega arith) in
    let l = num-take 6 bs 4 2 (omega arith) in
    λ i. check (may_number kind row (n i)) (Field (7 + 6 * row)) (check (eqb (l i) (body_length kind)) (Field (11 + 6 * row)) (Ok tt))

request_alone : (place : ℕ) (bs : List ℕ) → request_read place (take 14 bs) ≡ request_read place bs
request_alone place bs =
    let c = num-take 14 bs 0 2 (omega arith) in
    let s = num-take 14 bs 2 4 (omega arith) in
    let w = num-take 14 bs 6 8 (omega arith) in
    λ i. ok_or (request (c i) (s i) (w i)) (Field place)

pub entry_alone : (view place : ℕ) (bs : List ℕ) → 18 ≤ length bs → entry_read view place (take 18 bs) ≡ entry_read view place bs
entry_alone view place bs fits =
    let v = num-take 18 bs 0 4 (omega arith) in
    let r = ap (request_read (place + 4)) (drop-take 4 14 bs) ∙ request_alone (place + 4) (drop 4 bs) in
    λ i. check (ltb (v i) view) (Field place) (with (r i) (λ r. Ok (record { view = v i; request = r })))
