-- The search finds each pair that a slot holds, in a new index and after a pair fills the slot that the search named.
use Rattle.std.proofs.Common.{◌≡◌, ℕ, zero, suc, ◌-◌, ◌%◌, ◌<◌, Bool, true, false, ◌||◌, List, ◌∷◌, length, get_or, set, replicate, is_some, Some, None, Option, sym, refl, ap, ◌∙◌, subst, ⊎_elim, mod-lt, arith}
use mathlib.Core.Path.{fun_ext}
use Rattle.std.specs.List.{find}
use Rattle.std.specs.Option.{IfSome}
use Rattle.std.proofs.lemmas.Bool.{or_cases, cases_Bool, both_ways, false≢true}
use Rattle.std.proofs.lemmas.List.{length-map, length-set, get_or-set_same, get_or-set_other}
use Rattle.std.proofs.lemmas.List.Sums.{sum_by-cons}
use Rattle.seals.specs.Fnv.{fnv1a}
use Rattle.seals.specs.Registers.{Pair, added, among, is_pair, nothing}
use Rattle.seals.specs.Slots.{content, contents, empty_slot, ends, ends_at, filled, is_known, pairs_in, probed, Reached, round, vacant}
use Rattle.seals.proofs.Sealing.{pair_eq}
use Rattle.seals.proofs.Probing.{found_none, found_passes, found_same, found_within}
use Rattle.seals.proofs.Filling.{among_fill, contents_kept, contents_put, filled_kept, filled_set, held_among, round_all, round_within, vacant_fill, vacant_none, vacant_some}

-- what the search finds is held
pub found_held : (cs : List (Option Pair)) (replica : ℕ) (bytes : List ℕ) → is_known cs (probed cs replica bytes) ≡ true → among (pairs_in cs) replica bytes ≡ true
found_held cs replica bytes e = by_end (probed cs replica bytes) refl e
  where
    by_content : (k : ℕ) (c : Option Pair) → get_or cs k None ≡ c → is_some c ≡ true → ends replica bytes c ≡ true → among (pairs_in cs) replica bytes ≡ true
    by_content k None g s t = absurd (false≢true s)
    by_content k (Some p) g s t = held_among cs k p replica bytes g t

    by_end : (o : Option ℕ) → probed cs replica bytes ≡ o → is_known cs o ≡ true → among (pairs_in cs) replica bytes ≡ true
    by_end None p s = absurd (false≢true s)
    by_end (Some k) p s = by_content k (get_or cs k None) refl s (found_passes (ends_at cs replica bytes) k (round (fnv1a (replica ∷ bytes) % length cs) (length cs)) p)

-- the slot that a search ends at is there
pub slot_within : (cs : List (Option Pair)) (replica : ℕ) (bytes : List ℕ) (k : ℕ) → probed cs replica bytes ≡ Some k → k < length cs
slot_within cs replica bytes k e = found_within _ k (λ j. j < length cs) _ (round_within (fnv1a (replica ∷ bytes) % length cs) (length cs)) e

pub slots_within : (entry : ℕ → Option Pair) (slots : List ℕ) (replica : ℕ) (bytes : List ℕ) (o : Option ℕ) → o ≡ probed (contents entry slots) replica bytes → IfSome o (λ k. k < length slots)
slots_within entry slots replica bytes None e = tt
slots_within entry slots replica bytes (Some k) e = omega (arith, slot_within (contents entry slots) replica bytes k (sym e), length-map slots (content entry))

-- a search that ends nowhere met no empty slot
pub full_slots : (cs : List (Option Pair)) (replica : ℕ) (bytes : List ℕ) → probed cs replica bytes ≡ None → vacant cs ≡ 0
full_slots cs replica bytes e =
    vacant_none cs (λ k lt. taken (get_or cs k None) (round_all (λ j. ends_at cs replica bytes j ≡ false) _ (length cs) (mod-lt _ (omega arith)) (found_none _ _ e) k lt))
  where
    taken : (c : Option Pair) → ends replica bytes c ≡ false → is_some c ≡ true
    taken None f = sym f
    taken (Some p) f = refl

module _ (cs : List (Option Pair)) (replica : ℕ) (bytes : List ℕ) (k : ℕ) (reached : Reached cs) (ended : probed cs replica bytes ≡ Some k) (empty : get_or cs k None ≡ None) where
  abbrev ds : List (Option Pair)
  ds = set cs k (Some (replica, bytes))

  there : get_or ds k None ≡ Some (replica, bytes)
  there = get_or-set_same cs k (Some (replica, bytes)) None (slot_within cs replica bytes k ended)

  -- a slot that does not end a search is another one, and stays as it was
  passed : (r : ℕ) (bs : List ℕ) (j : ℕ) → ends_at cs r bs j ≡ false → ends_at ds r bs j ≡ false
  passed r bs j f =
      let ne : j ≡ k → ⊥ = λ q. both_ways _ f (ap (λ i. ends r bs (get_or cs i None)) q ∙ ap (ends r bs) empty) in
      ap (ends r bs) (get_or-set_other cs k j (Some (replica, bytes)) None ne) ∙ f

  -- a search that ends at a slot in which its pair is, once the slot is filled, ends there after the fill too
  found_after : (r : ℕ) (bs : List ℕ) (j : ℕ) → probed cs r bs ≡ Some j → ends_at ds r bs j ≡ true → probed ds r bs ≡ Some j
  found_after r bs j e t =
      ap (λ n. find (ends_at ds r bs) (round (fnv1a (r ∷ bs) % n) n)) (length-set cs k (Some (replica, bytes)))
      ∙ found_same _ j (ends_at ds r bs) (passed r bs) t _ e

  still_found : (r : ℕ) (bs : List ℕ) → is_known cs (probed cs r bs) ≡ true → is_known ds (probed ds r bs) ≡ true
  still_found r bs e = by_end (probed cs r bs) refl e
    where
      by_end : (o : Option ℕ) → probed cs r bs ≡ o → is_known cs o ≡ true → is_known ds (probed ds r bs) ≡ true
      by_end None p s = absurd (false≢true s)
      by_end (Some j) p s =
          let ne : j ≡ k → ⊥ = λ q. both_ways _ (ap is_some (ap (λ i. get_or cs i None) q ∙ empty)) s in
          let same : get_or ds j None ≡ get_or cs j None = get_or-set_other cs k j (Some (replica, bytes)) None ne in
          ap (is_known ds) (found_after r bs j p (ap (ends r bs) same ∙ found_passes (ends_at cs r bs) j (round (fnv1a (r ∷ bs) % length cs) (length cs)) p)) ∙ ap is_some same ∙ s

  now_found : is_pair (replica, bytes) replica bytes ≡ true → is_known ds (probed ds replica bytes) ≡ true
  now_found t = ap (is_known ds) (found_after replica bytes k ended (ap (ends replica bytes) there ∙ t)) ∙ ap is_some there

  pub fill_held : (r : ℕ) (bs : List ℕ) → among (pairs_in ds) r bs ≡ (among (pairs_in cs) r bs || is_pair (replica, bytes) r bs)
  fill_held r bs = among_fill cs k (replica, bytes) r bs (slot_within cs replica bytes k ended) empty

  all_found : (r : ℕ) (bs : List ℕ) → among (pairs_in ds) r bs ≡ true → is_known ds (probed ds r bs) ≡ true
  all_found r bs e =
      ⊎_elim (λ old. still_found r bs (reached r bs ∙ old))
      (λ new. let q = pair_eq (replica, bytes) r bs new in
      let t : is_pair (replica, bytes) replica bytes ≡ true = ap (λ x. is_pair (replica, bytes) x bytes) q.0 ∙ ap (is_pair (replica, bytes) r) q.1 ∙ new in
      sym (ap (λ x. is_known ds (probed ds x bytes)) q.0 ∙ ap (λ x. is_known ds (probed ds r x)) q.1) ∙ now_found t)
      (or_cases (among (pairs_in cs) r bs) (is_pair (replica, bytes) r bs) (sym (fill_held r bs) ∙ e))

  -- every pair that a slot holds is found after the fill
  pub reached_fill : Reached ds
  reached_fill r bs = by_held (among (pairs_in ds) r bs) refl
    where
      by_held : (b : Bool) → among (pairs_in ds) r bs ≡ b → is_known ds (probed ds r bs) ≡ b
      by_held true e = all_found r bs e
      by_held false e =
          ⊎_elim (λ found. absurd (both_ways (among (pairs_in ds) r bs) e (found_held ds r bs found))) (λ none. none) (cases_Bool (is_known ds (probed ds r bs)))

-- a search that ends at an empty slot shows that there is one
pub vacant_free : (cs : List (Option Pair)) (replica : ℕ) (bytes : List ℕ) (k : ℕ) → probed cs replica bytes ≡ Some k → get_or cs k None ≡ None → 0 < vacant cs
vacant_free cs replica bytes k e free = vacant_some cs k (slot_within cs replica bytes k e) free

-- what an index keeps of its entries, its slots and the count of empty ones
pub record Sound (entry : ℕ → Option Pair) (slots : List ℕ) (empty : ℕ) : Type 0 where
  pub readable : filled entry slots ≡ true
  pub counted : empty ≡ vacant (contents entry slots)
  pub reached : Reached (contents entry slots)

module _ (before after : ℕ → Option Pair) (kept : (offset : ℕ) (p : Pair) → before offset ≡ Some p → after offset ≡ Some p) (slots : List ℕ) (empty : ℕ) (sound : Sound before slots empty) where
  -- it holds on where entries are kept
  pub sound_kept : Sound after slots empty
  sound_kept =
      let e = contents_kept before after kept slots sound.readable in
      record { readable = filled_kept before after kept slots sound.readable; counted = sound.counted ∙ ap vacant (sym e); reached = subst Reached (sym e) sound.reached }

  module _ (replica : ℕ) (bytes : List ℕ) (k offset : ℕ) (ended : probed (contents before slots) replica bytes ≡ Some k) (free : get_or (contents before slots) k None ≡ None)
      (written : after offset ≡ Some (replica, bytes)) (below : offset < empty_slot) where
    within : k < length (contents before slots)
    within = slot_within (contents before slots) replica bytes k ended

    put : contents after (set slots k offset) ≡ set (contents before slots) k (Some (replica, bytes))
    put = contents_put before after kept slots k offset (replica, bytes) sound.readable below written

    -- and where the empty slot that a search ended at gets the pair's entry
    pub sound_filled : Sound after (set slots k offset) (empty - 1)
    sound_filled =
        record {
          readable = filled_set before after kept slots k offset sound.readable (ap is_some written);
          counted = omega (arith, sound.counted, vacant_fill (contents before slots) k (replica, bytes) within free, ap vacant put);
          reached = subst Reached (sym put) (reached_fill (contents before slots) replica bytes k sound.reached ended free);
        }

    -- the pair is held beside the others
    pub held_filled : among (pairs_in (contents after (set slots k offset))) ≡ added (among (pairs_in (contents before slots))) replica bytes
    held_filled = ap (λ cs. among (pairs_in cs)) put ∙ fun_ext (λ r. fun_ext (λ bs. fill_held (contents before slots) replica bytes k sound.reached ended free r bs))

-- slots that are all empty
module _ (entry : ℕ → Option Pair) where
  new_filled : (n : ℕ) → filled entry (replicate n empty_slot) ≡ true
  new_filled zero = refl
  new_filled (suc n) = new_filled n

  new_vacant : (n : ℕ) → vacant (contents entry (replicate n empty_slot)) ≡ n
  new_vacant zero = refl
  new_vacant (suc n) = sum_by-cons _ None (contents entry (replicate n empty_slot)) ∙ omega (arith, new_vacant n)

  new_held : (n : ℕ) (replica : ℕ) (bytes : List ℕ) → among (pairs_in (contents entry (replicate n empty_slot))) replica bytes ≡ false
  new_held zero replica bytes = refl
  new_held (suc n) replica bytes = new_held n replica bytes

  pub new_nothing : (n : ℕ) → among (pairs_in (contents entry (replicate n empty_slot))) ≡ nothing
  new_nothing n = fun_ext (λ r. fun_ext (λ bs. new_held n r bs))

  new_reached : (n : ℕ) → Reached (contents entry (replicate n empty_slot))
  new_reached n replica bytes =
      let cs = contents entry (replicate n empty_slot) in
      ⊎_elim (λ found. absurd (both_ways _ (new_held n replica bytes) (found_held cs replica bytes found)))
      (λ none. none ∙ sym (new_held n replica bytes))
      (cases_Bool (is_known cs (probed cs replica bytes)))

  pub new_sound : (n : ℕ) → Sound entry (replicate n empty_slot) n
  new_sound n = record { readable = new_filled n; counted = sym (new_vacant n); reached = new_reached n }
