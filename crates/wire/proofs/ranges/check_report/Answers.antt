use Rattle.std.proofs.Common.{◌+◌, ◌*◌, length, arith}
use Rattle.wire.proofs.Reporting.{late_from}
use Rattle.wire.proofs.ranges.check_report.Goals as goal

pub returns-in-Some : goal.returns-in-Some
returns-in-Some c = let e = late_from c.args.view (7 + 6 * length c.args.entries.now) 0 c.args.entries.now in grind (arith, e)

pub returns-in-None : goal.returns-in-None
returns-in-None c = let e = late_from c.args.view (7 + 6 * length c.args.entries.now) 0 c.args.entries.now in grind (arith, e)
