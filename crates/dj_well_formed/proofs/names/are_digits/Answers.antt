use Rattle.std.proofs.Common.{◌↔◌, IsTrue, All, rules, tests}
use Rattle.dj_names.specs.Identifiers.{IsDigit}
use Rattle.dj_well_formed.proofs.ListTests.{each}
use Rattle.dj_well_formed.proofs.names.are_digits.Goals as goal

pub returns : goal.returns
returns c =
    let found : IsTrue c.all.result ↔ All IsDigit c.args.units.now = search (rules, tests) in
    record { digits = each IsDigit c.args.units.now c.all.result found }
