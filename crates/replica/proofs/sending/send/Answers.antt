use Rattle.std.proofs.Common.{rules}
use Rattle.wire.specs.Drafts.{stating}
use Rattle.replica.proofs.Written.{written_whole, sealed_whole}
use Rattle.replica.proofs.sending.send.Goals as goal

pub returns-clause-sealed : goal.returns-clause-sealed
returns-clause-sealed g c =
    let s = c.args.state.now in
    sealed_whole s.config s.number (stating s.view c.args.content.now) _ _ _ c.requires.ranges c.requires.buffer c.write.ensures.answers c.write.ensures.fills _ _ _ (search rules) c.requires.room c.seal.ensures.leaves

pub returns-clause-written : goal.returns-clause-written
returns-clause-written g c =
    let s = c.args.state.now in
    written_whole s.config s.number (stating s.view c.args.content.now) _ _ _ c.requires.ranges c.requires.buffer c.write.ensures.answers c.write.ensures.fills
