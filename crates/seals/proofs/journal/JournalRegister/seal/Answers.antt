use Rattle.std.proofs.Common.{◌≡◌, true, false, ◌++◌, ◌≤◌, length, rules, ap, ◌∙◌}
use Rattle.seals.specs.Registers.{added, after, among}
use Rattle.seals.specs.Layout.{entries, packed}
use Rattle.seals.specs.Logs.{used_bytes, place}
use Rattle.seals.specs.Journals.{journal_state}
use Rattle.seals.proofs.Sealing.{among_push, new}
use Rattle.seals.proofs.Walking.{entries_push, whole_after}
use Rattle.seals.proofs.journal.JournalRegister.seal.Goals as goal

pub invariant_of-self : goal.invariant_of-self
invariant_of-self c =
    record { whole = whole_after c.args.self.now.log c.append.new.self _ _ c.args.self.now.whole c.append.ensures.packs c.append.ensures.short c.append.ensures.full }

pub returns-clause-leaves : goal.returns-clause-leaves
returns-clause-leaves c =
    let j = c.args.self.now in
    let r = c.args.replica in
    let b = c.args.bytes.now in
    let n : (journal_state j).sealed r b ≡ false = search rules in
    let f : (journal_state j).fits (length b) ≡ true = search rules in
    let short : length b ≤ 65535 = search rules in
    let e : place c.append.new.self ≡ after (place j.log) (r, b) = search rules in
    let g : used_bytes c.append.new.self ≡ used_bytes j.log ++ packed (r, b) = search rules in
    let p : among (entries (used_bytes c.append.new.self)) ≡ added (among (entries (used_bytes j.log))) r b =
    ap (λ bs. among (entries bs)) g ∙ ap among (entries_push (used_bytes j.log) (r, b) j.whole short) ∙ among_push (entries (used_bytes j.log)) r b in
    rw (p, e) (new (journal_state j) r b n f).leaves
