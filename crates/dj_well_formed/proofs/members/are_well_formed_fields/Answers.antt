use Rattle.std.proofs.Common.{◌↔◌, IsTrue, All, rules}
use Rattle.dj_syntax.specs.Trees.{view_field}
use Rattle.dj_syntax.specs.WellFormed.{IsWellFormedField}
use Rattle.dj_well_formed.proofs.ListTests.{each_view}
use Rattle.dj_well_formed.proofs.members.are_well_formed_fields.Goals as goal

pub returns : goal.returns
returns c =
    let fields = c.args.fields.now in
    let found : IsTrue c.all.result ↔ All (λ field. IsWellFormedField c.args.interface (view_field field)) fields = search rules in
    record { well_formed = each_view view_field (IsWellFormedField c.args.interface) fields c.all.result found }
