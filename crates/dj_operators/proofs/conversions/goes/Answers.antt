use Rattle.dj_names.specs.Types.{view_type}
use Rattle.dj_operators.proofs.Tests.{goes-is}
use Rattle.dj_operators.proofs.conversions.goes.Goals as goal

pub returns : goal.returns
returns c = record { goes = goes-is c.args.headers.now (view_type c.args.from.now) (view_type c.args.to.now) c.is_subtype.result c.is_subtype.ensures.subtype }
