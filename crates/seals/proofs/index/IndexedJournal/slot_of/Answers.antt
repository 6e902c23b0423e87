use Rattle.std.proofs.Common.{◌≡◌, ◌-◌, ◌%◌, length, rules, ap, mod-lt, arith}
use Rattle.std.specs.List.{find, range_with_len}
use Rattle.std.specs.Option.{option_or}
use Rattle.std.proofs.lemmas.List.{length-map}
use Rattle.seals.specs.Logs.{entry_at}
use Rattle.seals.specs.Slots.{content, ends_at, probed}
use Rattle.seals.specs.Indexes.{index_contents}
use Rattle.seals.proofs.Probing.{probed_parts}
use Rattle.seals.proofs.Reaching.{slots_within}
use Rattle.seals.proofs.index.IndexedJournal.slot_of.Goals as goal
use Rattle.seals.proofs.index.IndexedJournal.slot_of.Goals.{After-first_end}

-- the search goes from the first slot tried to the last, and else through those before it
parts : (c : After-first_end) → probed (index_contents c.args.self.now) c.args.entry.replica c.args.entry.bytes.now
    ≡ option_or c.first_end.result (find (ends_at (index_contents c.args.self.now) c.args.entry.replica c.args.entry.bytes.now) (range_with_len 0 (c.fnv1a_pair.result % length c.args.self.now.slots.now - 0)))
parts c =
    let slots = c.args.self.now.slots.now in
    let l = length-map slots (content (entry_at c.args.self.now.log)) in
    rw c.first_end.ensures (probed_parts _ _ _ (c.fnv1a_pair.result % length slots) (length slots) l (ap (λ h. h % length slots) c.fnv1a_pair.ensures) (mod-lt _ (omega arith)))

pub returns-in-None : goal.returns-in-None
returns-in-None c =
    let p = parts (goal.at.returns-in-None c).After-first_end in
    let e : c.first_end-in-None.result ≡ probed (index_contents c.args.self.now) c.args.entry.replica c.args.entry.bytes.now = search rules in
    record { answer = e; inside = slots_within _ _ c.args.entry.replica c.args.entry.bytes.now _ e }

pub returns-in_default : goal.returns-in_default
returns-in_default c =
    let p = parts (goal.at.returns-in_default c).After-first_end in
    let e : c.first_end.result ≡ probed (index_contents c.args.self.now) c.args.entry.replica c.args.entry.bytes.now = search rules in
    record { answer = e; inside = slots_within _ _ c.args.entry.replica c.args.entry.bytes.now _ e }
