use Rattle.std.proofs.Common.{refl}
use Rattle.seals.proofs.Placing.{place_new}
use Rattle.seals.proofs.log.EntryLog.new.Goals as goal

pub returns-clause-room : goal.returns-clause-room
returns-clause-room c = place_new _ refl
