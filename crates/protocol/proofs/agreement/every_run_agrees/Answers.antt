use Rattle.protocol.specs.Replay.{of_works}
use Rattle.protocol.proofs.Whole.{agreement}
use Rattle.protocol.proofs.agreement.every_run_agrees.Goals as goal

pub returns : goal.returns
returns g c = record { agrees = agreement (of_works g.M.Machine.meaning) }
