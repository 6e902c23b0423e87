use Rattle.std.proofs.Common.{Option, sym, ap}
use Rattle.std.specs.Option.{ok_or}
use Rattle.wire.specs.declared.fault.ReadFault.TheVariants.{Setting}
use Rattle.wire.specs.declared.request.Request.{Request}
use Rattle.wire.proofs.Building.{request_is}
use Rattle.wire.proofs.request.Request.new.Goals as goal

pub returns : goal.returns
returns c = sym (ap (λ (o : Option Request). ok_or o Setting) (request_is _))
