use Rattle.std.proofs.Common.{◌≡◌, ◌<◌, true, false, [], length, is_some, None, Some, Err, get_or, rules, sym, ap, ◌∙◌, arith}
use Rattle.std.proofs.lemmas.Bool.{ltb-true}
use Rattle.seals.specs.declared.index.IndexedJournal.{IndexedJournal}
use Rattle.seals.specs.declared.fault.RegisterFault.TheVariants.{Full}
use Rattle.seals.specs.Registers.{after}
use Rattle.seals.specs.Logs.{entry_at, place}
use Rattle.seals.specs.Slots.{empty_slot, holdable, is_known, probed}
use Rattle.seals.specs.Indexes.{index_contents, index_state}
use Rattle.seals.proofs.Sealing.{new, full}
use Rattle.seals.proofs.Fitting.{fits_after, fits_full, fits_some}
use Rattle.seals.proofs.Reaching.{Sound, full_slots, held_filled, sound_filled, sound_kept, vacant_free}
use Rattle.seals.proofs.index.IndexedJournalRegister.seal.Goals as goal
use Rattle.seals.proofs.index.IndexedJournalRegister.seal.Goals.{After-append, After-unwrap-offset}

sound : (x : IndexedJournal) → Sound (entry_at x.log) x.slots.now x.empty
sound x = record { readable = x.readable; counted = x.counted; reached = x.reached }

pub invariant_of-self : goal.invariant_of-self
invariant_of-self c =
    let x = c.args.self.now in
    let s = sound_kept _ _ c.append.ensures.kept x.slots.now x.empty (sound x) in
    record { readable = s.readable; counted = s.counted; reached = s.reached }

-- a search that ends at no slot met no empty one
pub returns-in_err-slot : goal.returns-in_err-slot
returns-in_err-slot c =
    let x = c.args.self.now in
    let none : probed (index_contents x) c.args.replica c.args.bytes.now ≡ None = search rules in
    let n : (index_state x).sealed c.args.replica c.args.bytes.now ≡ false = sym (x.reached c.args.replica c.args.bytes.now) ∙ ap (is_known (index_contents x)) none in
    let s = full (index_state x) _ _ n (fits_full x.empty (place x.log) (length c.args.bytes.now) (x.counted ∙ full_slots (index_contents x) c.args.replica c.args.bytes.now none)) in
    let e : c.from_residual.result ≡ Err Full = search rules in
    record { answer = e ∙ s.answer; leaves = s.leaves; succeeds = λ t. e ∙ s.succeeds t }

-- a new pair has a search that ends at an empty slot, and an entry with an offset that a slot can hold
ended : (c : After-append) → probed (index_contents c.args.self.now) c.args.replica c.args.bytes.now ≡ Some c.in_ok-slot.slot
ended c = search rules

free : (c : After-append) → get_or (index_contents c.args.self.now) c.in_ok-slot.slot None ≡ None
free c = search rules

written : (c : After-unwrap-offset) → entry_at c.append.new.self c.unwrap-offset.result ≡ Some (c.args.replica, c.args.bytes.now)
written c = search rules

below : (c : After-unwrap-offset) → c.unwrap-offset.result < empty_slot
below c =
    let e : c.offset_for.result ≡ Some c.unwrap-offset.result = search rules in
    let h : holdable c.offset_for.result ≡ true = search rules in
    ltb-true c.unwrap-offset.result empty_slot (ap holdable (sym e) ∙ h)

pub invariant_of-self-2 : goal.invariant_of-self-2
invariant_of-self-2 c =
    let x = c.args.self.now in
    let a = (goal.at.invariant_of-self-2 c).After-append in
    let s = sound_filled _ _ c.append.ensures.kept x.slots.now x.empty (sound x) c.args.replica c.args.bytes.now c.in_ok-slot.slot c.unwrap-offset.result (ended a) (free a) (written c) (below c) in
    record { readable = s.readable; counted = s.counted; reached = s.reached }

pub returns-clause-leaves : goal.returns-clause-leaves
returns-clause-leaves c =
    let x = c.args.self.now in
    let r = c.args.replica in
    let b = c.args.bytes.now in
    let a = (goal.at.returns-clause-leaves c).After-append in
    let u = (goal.at.returns-clause-leaves c).After-unwrap-offset in
    let room : 0 < x.empty = omega (arith, vacant_free (index_contents x) r b c.in_ok-slot.slot (ended a) (free a), x.counted) in
    let n : (index_state x).sealed r b ≡ false = sym (x.reached r b) ∙ ap (is_known (index_contents x)) (ended a) ∙ ap is_some (free a) in
    let h : holdable (place x.log [] (length b)) ≡ true = search rules in
    let s = new (index_state x) r b n (fits_some x.empty (place x.log) (length b) room h) in
    let e : place c.append.new.self ≡ after (place x.log) (r, b) = search rules in
    let g = fits_after x.empty (r, b) (place x.log) (place c.append.new.self) room e in
    let p = held_filled _ _ c.append.ensures.kept x.slots.now x.empty (sound x) r b c.in_ok-slot.slot c.unwrap-offset.result (ended a) (free a) (written u) (below u) in
    rw (p, g) s.leaves
