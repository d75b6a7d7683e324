use Rattle.std.proofs.Common.{None, Some}
use Rattle.dj_class.specs.Views.{view_class}
use Rattle.dj_code.specs.MethodCode.{view_typed}
use Rattle.dj_method_causes.proofs.Causes.{early_of_all, monitor_of_all, births_of_all}
use Rattle.dj_method_causes.proofs.Told.{no_number}
use Rattle.dj_method_causes.proofs.method_causes.MethodCauses.first_cause.Goals as goal

pub returns-in-Some : goal.returns-in-Some
returns-in-Some c = record {
  first = early_of_all c.args.unpaired c.args.world.now (view_class c.args.class.now) c.args.at (view_typed c.args.typed.now) c.in-Some.cause (rw c.in-Some.is at (c.in_ok-early.ensures.first c.args.unpaired));
}

pub returns-in-Some-unpaired : goal.returns-in-Some-unpaired
returns-in-Some-unpaired c = record {
  first = monitor_of_all c.args.unpaired c.args.world.now (view_class c.args.class.now) c.args.at (view_typed c.args.typed.now) c.in-Some-unpaired.pc c.in-Some-unpaired.is (rw c.in_default.is at (c.in_ok-early.ensures.first c.args.unpaired));
}

pub returns-in-Some-in_births : goal.returns-in-Some-in_births
returns-in-Some-in_births c = record {
  first = births_of_all c.args.unpaired c.args.world.now (view_class c.args.class.now) c.args.at (view_typed c.args.typed.now) (Some c.in-Some-in_births.cause) (no_number c.args.unpaired c.in_default-unpaired.is)
      (rw c.in_default.is at (c.in_ok-early.ensures.first c.args.unpaired)) (rw c.in-Some-in_births.is at (c.in_ok-in_births.ensures.first c.args.unpaired (view_class c.args.class.now) c.args.at));
}

pub returns-in-None : goal.returns-in-None
returns-in-None c = record {
  first = births_of_all c.args.unpaired c.args.world.now (view_class c.args.class.now) c.args.at (view_typed c.args.typed.now) None (no_number c.args.unpaired c.in_default-unpaired.is)
      (rw c.in_default.is at (c.in_ok-early.ensures.first c.args.unpaired)) (rw c.in-None.is at (c.in_ok-in_births.ensures.first c.args.unpaired (view_class c.args.class.now) c.args.at));
}
