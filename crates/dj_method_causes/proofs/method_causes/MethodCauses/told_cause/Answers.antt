use Rattle.std.proofs.Common.{Some}
use Rattle.dj_class.specs.Views.{view_class}
use Rattle.dj_code.specs.MethodCode.{view_typed}
use Rattle.dj_method_causes.proofs.Causes.{early_of_all, births_of_all}
use Rattle.dj_method_causes.specs.Telling.{HoldsGiven}
use Rattle.dj_method_causes.proofs.Told.{told_first, no_number, is_early, is_late}
use Rattle.dj_method_causes.proofs.method_causes.MethodCauses.told_cause.Goals as goal

pub returns-in-Some : goal.returns-in-Some
returns-in-Some c =
    let world = c.args.world.now in
    let class = view_class c.args.class.now in
    let typed = view_typed c.args.typed.now in
    let found = c.first_monitor-unpaired.result in
    let early = rw c.in-Some.is at (c.in_ok-early.ensures.first found) in
    record {
      told = told_first world class c.args.at typed found c.first_monitor-unpaired.ensures.first c.in-Some.cause (is_early (HoldsGiven found world class c.args.at typed) c.in-Some.cause early)
          (early_of_all found world class c.args.at typed c.in-Some.cause early);
    }

pub returns-in-Some-in_births : goal.returns-in-Some-in_births
returns-in-Some-in_births c =
    let world = c.args.world.now in
    let class = view_class c.args.class.now in
    let typed = view_typed c.args.typed.now in
    let found = c.first_monitor-unpaired.result in
    let cause = c.in-Some-in_births.cause in
    let births = rw c.in-Some-in_births.is at (c.in_ok-in_births.ensures.first found class c.args.at) in
    record {
      told = told_first world class c.args.at typed found c.first_monitor-unpaired.ensures.first cause (is_late (HoldsGiven found world class c.args.at typed) cause births)
          (births_of_all found world class c.args.at typed (Some cause) (no_number found c.in_default-unpaired.is)
          (rw c.in_default.is at (c.in_ok-early.ensures.first found)) births);
    }
