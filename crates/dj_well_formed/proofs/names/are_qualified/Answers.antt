use Rattle.std.proofs.Common.{◌↔◌, IsTrue, All, rules}
use Rattle.dj_syntax.specs.WellFormed.{IsQualified}
use Rattle.dj_well_formed.proofs.ListTests.{each}
use Rattle.dj_well_formed.proofs.names.are_qualified.Goals as goal

pub returns : goal.returns
returns c =
    let found : IsTrue c.all.result ↔ All IsQualified c.args.names.now = search rules in
    record { qualified = each IsQualified c.args.names.now c.all.result found }
