use Rattle.std.proofs.Common.{◌↔◌, IsTrue, All, rules}
use Rattle.dj_syntax.specs.WellFormed.{IsCase}
use Rattle.dj_well_formed.proofs.ListTests.{each}
use Rattle.dj_well_formed.proofs.statements.are_cases.Goals as goal

pub returns : goal.returns
returns c =
    let found : IsTrue c.all.result ↔ All IsCase c.args.labels.now = search rules in
    record { cases = each IsCase c.args.labels.now c.all.result found }
