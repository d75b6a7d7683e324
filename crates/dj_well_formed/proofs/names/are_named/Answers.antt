use Rattle.std.proofs.Common.{◌↔◌, IsTrue, All, rules}
use Rattle.dj_names.specs.Types.{view_type}
use Rattle.dj_syntax.specs.WellFormed.{IsNamed}
use Rattle.dj_well_formed.proofs.ListTests.{each_view}
use Rattle.dj_well_formed.proofs.names.are_named.Goals as goal

pub returns : goal.returns
returns c =
    let found : IsTrue c.all.result ↔ All (λ kind. IsNamed (view_type kind)) c.args.kinds.now = search rules in
    record { named = each_view view_type IsNamed c.args.kinds.now c.all.result found }
