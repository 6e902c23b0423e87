use Rattle.std.proofs.Common.{◌≡◌, true, rules}
use Rattle.protocol.specs.States.{turning}
use Rattle.replica.proofs.Fitting.{report_fits}
use Rattle.replica.proofs.replica.Replica.report.Goals as goal

pub send-length-requires-clause-ranges : goal.send-length-requires-clause-ranges
send-length-requires-clause-ranges g c =
    let r = c.args.self.now in
    let s = r.state in
    let turns : turning s.phase ≡ true = search rules in
    let fits = report_fits s r.placed r.counted r.sized r.earlier turns in
    search rules
