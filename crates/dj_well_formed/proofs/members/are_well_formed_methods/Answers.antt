use Rattle.std.proofs.Common.{◌↔◌, IsTrue, All, rules}
use Rattle.std.specs.Prelude.{is_some}
use Rattle.dj_syntax.specs.Trees.{view_method, view_unit}
use Rattle.dj_syntax.specs.UnitText.{is_interface}
use Rattle.dj_syntax.specs.WellFormed.{IsWellFormedMethod, class_name}
use Rattle.dj_well_formed.proofs.ListTests.{each_view}
use Rattle.dj_well_formed.proofs.members.are_well_formed_methods.Goals as goal

pub returns : goal.returns
returns c =
    let interface = is_interface c.args.unit.now.flags in
    let helper = is_some c.args.unit.now.helper in
    let class = class_name (view_unit c.args.unit.now) in
    let methods = c.args.methods.now in
    let found : IsTrue c.all.result ↔ All (λ method. IsWellFormedMethod interface helper class (view_method method)) methods = search rules in
    record { well_formed = each_view view_method (IsWellFormedMethod interface helper class) methods c.all.result found }
