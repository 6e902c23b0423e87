-- What a replica selects at opening: for each number an entry of a report that counts, and no such report has an entry of a higher view;
-- past the numbers selected no report that counts has an entry.
use Rattle.std.proofs.Common.{◌≡◌, ℕ, zero, suc, ◌<◌, ◌≤◌, T, ltb, ◌⊎◌, List, length, get_or, Some, None, Option, sym, refl, ap, ◌∙◌, inl, inr, ⊎_elim, le_refl, not-suc-le-zero, arith}
use Rattle.std.specs.List.{slice_get}
use Rattle.std.proofs.lemmas.List.FromFn.{get_or-map-range_with_len}
use Rattle.std.proofs.lemmas.Option.{none-some, slice_get_within, slice_get_past, gets}
use Rattle.std.proofs.lemmas.Bool.{cond_both}
use Rattle.std.proofs.lemmas.Bool.Decides.{nat_tests}
use Rattle.wire.specs.declared.entry.LogEntry.{LogEntry}
use Rattle.wire.specs.declared.request.Request.{Request}
use Rattle.wire.specs.Kinds.{last_number}
use Rattle.protocol.specs.declared.state.State.{State}
use Rattle.protocol.specs.Selecting.{peers, named, counts, length_of, entry_at, longest, later, latest, request_of, selects, choice, choices}
use Rattle.protocol.specs.States.{blank, held}
use Rattle.protocol.proofs.Tests.{last_or_below}

-- the largest value bounds each
longest_bounds : (n : ℕ) (f : ℕ → ℕ) (x : ℕ) → x < n → f x ≤ longest n f
longest_bounds zero f x l = absurd (not-suc-le-zero l)
longest_bounds (suc n) f x l = grind (arith, longest_bounds n f x)

-- an entry of a view or a later one
abbrev pub NoLower : Option LogEntry → ℕ → Type 0
NoLower o view = (e : LogEntry) × (o ≡ Some e) × (view ≤ e.view)

-- the later of two entries is one of them, of no lower view than either
later_from : (a b : Option LogEntry) (e : LogEntry) → later a b ≡ Some e → (a ≡ Some e) ⊎ (b ≡ Some e)
later_from None b e q = inr q
later_from (Some d) None e q = inl q
later_from (Some d) (Some c) e q = grind arith

later_no_lower : (a b : Option LogEntry) (view : ℕ) → NoLower a view ⊎ NoLower b view → NoLower (later a b) view
later_no_lower None b view (inl h) = absurd (none-some _ h.1)
later_no_lower None b view (inr h) = h
later_no_lower (Some d) None view (inl h) = h
later_no_lower (Some d) None view (inr h) = absurd (none-some _ h.1)
later_no_lower (Some d) (Some c) view h =
    cond_both (ltb d.view c.view) (Some c) (Some d) (λ o. NoLower o view)
    (λ t. (c, refl, grind (arith, nat_tests))) (λ t. (d, refl, grind (arith, nat_tests)))

-- the latest entry is one of them, of no lower view than any
pub latest_from : (n : ℕ) (f : ℕ → Option LogEntry) (e : LogEntry) → latest n f ≡ Some e → (x : ℕ) × (x < n) × (f x ≡ Some e)
latest_from zero f e q = cc
latest_from (suc n) f e q = grind (arith, latest_from n f e, later_from (latest n f) (f n) e q)

pub latest_no_lower : (n : ℕ) (f : ℕ → Option LogEntry) (x view : ℕ) → x < n → NoLower (f x) view → NoLower (latest n f) view
latest_no_lower zero f x view l h = absurd (not-suc-le-zero l)
latest_no_lower (suc n) f x view l h =
    later_no_lower (latest n f) (f n) view
    (⊎_elim (λ (same : x ≡ n). inr (rw same at h)) (λ below. inl (latest_no_lower n f x view below h)) (last_or_below x n l))

-- the entry after the first k of a report is the one that the list has there
entry_in : (es : List LogEntry) (k : ℕ) → entry_at (Some es) k ≡ slice_get es k
entry_in es k = grind (arith, nat_tests, gets, slice_get_past es k)

entry_from : (o : Option (List LogEntry)) (k : ℕ) (e : LogEntry) → entry_at o k ≡ Some e → (es : List LogEntry) × (o ≡ Some es) × (slice_get es k ≡ Some e)
entry_from None k e q = cc
entry_from (Some es) k e q = grind (arith, entry_in es k)

-- a report counts if it is held and a noted closing names its replica
pub counted : (s : State) (x : ℕ) (es : List LogEntry) → counts s x ≡ Some es → T (named s x) × (held s x ≡ Some es)
counted s x es q = grind arith

pub counts_held : (s : State) (x : ℕ) → T (named s x) → counts s x ≡ held s x
counts_held s x t = grind arith

-- what is picked for the number after k: a request with an entry of that view or a later one in a report that counts
pub record Picked (s : State) (k view : ℕ) (r : Request) : Type 0 where
  pub who : ℕ
  pub inside : who < peers s
  pub entries : List LogEntry
  pub counting : counts s who ≡ Some entries
  pub entry : LogEntry
  pub there : slice_get entries k ≡ Some entry
  pub requested : entry.request ≡ r
  pub no_lower : view ≤ entry.view

-- each entry of a report that counts is for a number selected, for which a request of no lower view is picked
pub selects_past : (s : State) (x k : ℕ) (es : List LogEntry) (e : LogEntry) → x < peers s → counts s x ≡ Some es → slice_get es k ≡ Some e → k < selects s
selects_past s x k es e l q at =
    let long : length_of (counts s x) ≡ length es = ap length_of q in
    omega (arith, slice_get_within es k e at, longest_bounds (peers s) (λ h. length_of (counts s h)) x l)

pub picks : (s : State) (x k : ℕ) (es : List LogEntry) (e : LogEntry) → x < peers s → counts s x ≡ Some es → slice_get es k ≡ Some e
    → Picked s k e.view (choice s k)
picks s x k es e l q at =
    let f = λ (h : ℕ). entry_at (counts s h) k in
    let has : entry_at (counts s x) k ≡ Some e = ap (λ (o : Option (List LogEntry)). entry_at o k) q ∙ entry_in es k ∙ at in
    let best = latest_no_lower (peers s) f x e.view l (e, has, le_refl _) in
    let from = latest_from (peers s) f best.0 best.1 in
    let report = entry_from (counts s from.0) k best.0 from.2 in
    record {
      who = from.0;
      inside = from.1;
      entries = report.0;
      counting = report.1;
      entry = best.0;
      there = report.2;
      requested = sym (ap request_of best.1);
      no_lower = best.2;
    }

-- the selection has what is chosen for each number
pub choices_at : (s : State) (k : ℕ) → k < last_number → get_or (choices s) k blank ≡ choice s k
choices_at s k l = get_or-map-range_with_len (choice s) 0 last_number k k blank l (omega arith)
