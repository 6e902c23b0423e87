-- What a replica keeps true of its state puts its messages in their ranges.
use Rattle.std.proofs.Common.{◌≡◌, ℕ, suc, ◌+◌, ◌^◌, ◌<◌, ◌≤◌, true, leb, List, [], ◌∷◌, length, get_or, None, refl, ◌∙◌, subst, suc-le-suc, zero-le, arith, length-take-le, get_or-take}
use Rattle.std.proofs.lemmas.Bool.{lt-ltb, le-leb, cond-true}
use Rattle.wire.specs.declared.entry.LogEntry.{LogEntry}
use Rattle.wire.specs.Configs.{replicas, faults}
use Rattle.wire.specs.Counting.{count}
use Rattle.wire.specs.Kinds.{last_view, last_number}
use Rattle.wire.specs.Laws.{Fits}
use Rattle.wire.specs.Statements.{report, closing}
use Rattle.wire.specs.Writing.{late_entry}
use Rattle.protocol.specs.declared.state.State.{State}
use Rattle.protocol.specs.Selecting.{peers, holds, held_mask}
use Rattle.protocol.specs.States.{blank_entry, entries, turning}
use Rattle.protocol.proofs.Masks.{mask_small, mask_count}
use Rattle.replica.specs.Valid.{Placed, Counted, Sized, Earlier}

none_late : (view offset : ℕ) (es : List LogEntry) → ((k : ℕ) → k < length es → (get_or es k blank_entry).view < view) → late_entry view offset es ≡ None
none_late view offset [] earlier = refl
none_late view offset (e ∷ es) earlier =
    cond-true _ _ _ (lt-ltb e.view view (earlier 0 (suc-le-suc zero-le)))
    ∙ none_late view (offset + 18) es (λ k l. earlier (suc k) (suc-le-suc l))

pub entries_few : (s : State) → Counted s → Sized s → length (entries s) ≤ last_number
entries_few s counted sized =
    let whole : s.logged ≤ length s.log = omega (arith, sized.2, counted.2) in
    omega (arith, length-take-le s.logged s.log whole, counted.2)

pub report_fits : (s : State) → Placed s → Counted s → Sized s → Earlier s → turning s.phase ≡ true → Fits s.config s.number (report s.view (entries s))
report_fits s placed counted sized earlier turns =
    let whole : s.logged ≤ length s.log = omega (arith, sized.2, counted.2) in
    let long = length-take-le s.logged s.log whole in
    let within : (k : ℕ) → k < length (entries s) → (get_or (entries s) k blank_entry).view < s.view = λ k l.
    let below : k < s.logged = omega (arith, long, l) in
    rw (get_or-take s.logged s.log k blank_entry below)
    (subst (λ (b : ℕ). (get_or s.log k blank_entry).view < b) (cond-true _ _ _ turns) (earlier k below)) in
    cond-true _ _ _ (lt-ltb s.number (replicas s.config) placed.0)
    ∙ cond-true _ _ _ (le-leb s.view last_view placed.1)
    ∙ cond-true _ _ _ (le-leb (length (entries s)) last_number (entries_few s counted sized))
    ∙ none_late s.view _ (entries s) within

pub closing_fits : (s : State) → Placed s → leb (faults s.config + 1) (count (peers s) (holds s)) ≡ true → Fits s.config s.number (closing s.view (held_mask s))
closing_fits s placed enough =
    let n = peers s in
    let named = mask_count n (holds s) in
    cond-true _ _ _ (lt-ltb s.number n placed.0)
    ∙ cond-true _ _ _ (le-leb s.view last_view placed.1)
    ∙ rw (lt-ltb (held_mask s) (2 ^ n) (mask_small n (holds s)), named, enough) refl
