use Rattle.std.proofs.Common.{◌↔◌, ◌<◌, ◌^◌, IsTrue, All, rules}
use Rattle.dj_well_formed.proofs.ListTests.{each}
use Rattle.dj_well_formed.proofs.expressions.are_units.Goals as goal

pub returns : goal.returns
returns c =
    let found : IsTrue c.all.result ↔ All (λ unit. unit < 2 ^ 16) c.args.units.now = search rules in
    record { units = each (λ unit. unit < 2 ^ 16) c.args.units.now c.all.result found }
