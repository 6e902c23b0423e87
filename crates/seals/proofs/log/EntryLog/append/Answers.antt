use Rattle.std.proofs.Common.{◌≡◌, ◌+◌, ◌++◌, length, take, rules, arith, ◌∙◌}
use Rattle.std.proofs.lemmas.Grind.{common_steps}
use Rattle.std.proofs.lemmas.List.{length-take-le}
use Rattle.seals.specs.Layout.{packed, pair_of}
use Rattle.seals.specs.Logs.{used_bytes}
use Rattle.seals.proofs.Placing.{place_after}
use Rattle.seals.proofs.Appending.{reads_new, reads_old}
use Rattle.seals.proofs.log.EntryLog.append.Goals as goal
use Rattle.seals.proofs.log.EntryLog.append.Goals.{After-write-2}

-- the entry stands behind the bytes that held entries
grown : (c : After-write-2) → take (c.in_ok-offset.offset + 3 + length c.args.entry.bytes.now) c.write-2.new.self.memory.now ≡ used_bytes c.args.self.now ++ packed (pair_of c.args.entry)
grown c = grind (arith, common_steps)

pub returns-clause-written : goal.returns-clause-written
returns-clause-written c =
    let used = length-take-le c.args.self.now.used c.args.self.now.memory.now c.args.self.now.within in
    reads_new c.args.self.now _ _ (grown (goal.at.returns-clause-written c).After-write-2) _ (search rules) c.in_ok-offset.ensures.short

pub returns-clause-kept : goal.returns-clause-kept
returns-clause-kept c = reads_old c.args.self.now _ _ (grown (goal.at.returns-clause-kept c).After-write-2)

pub returns-clause-room : goal.returns-clause-room
returns-clause-room c = place_after _ _ _ (c.write-2.ensures.size ∙ c.write.ensures.size) (omega (arith, c.in_ok-offset.ensures.behind))
