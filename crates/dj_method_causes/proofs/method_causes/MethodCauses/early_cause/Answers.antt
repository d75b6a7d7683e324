use Rattle.std.proofs.Common.{None, Some, arith}
use Rattle.dj_class.specs.Views.{view_class}
use Rattle.dj_code.specs.MethodCode.{view_typed}
use Rattle.dj_method_causes.proofs.Causes.{Held, early_first, names_first}
use Rattle.dj_method_causes.proofs.Firsts.{widened}
use Rattle.dj_method_causes.proofs.method_causes.MethodCauses.early_cause.Goals as goal

pub returns-in-Some-clause-first : goal.returns-in-Some-clause-first
returns-in-Some-clause-first c =
    let world = c.args.world.now in
    let class = view_class c.args.class.now in
    λ unpaired. widened (Held unpaired world class c.args.at (view_typed c.args.typed.now)) 1 3 8 c.in-Some.cause (omega arith) (c.in-Some.ensures.first unpaired world class c.args.at)

pub returns-in-Some-in_names-clause-first : goal.returns-in-Some-in_names-clause-first
returns-in-Some-in_names-clause-first c =
    let world = c.args.world.now in
    let class = view_class c.args.class.now in
    λ unpaired. names_first unpaired world class c.args.at (view_typed c.args.typed.now) c.in-Some-in_names.cause
    (rw c.in_default.is at (c.cause_in_instructions.ensures.first unpaired world class c.args.at))
    (rw c.in-Some-in_names.is at (c.in_ok-in_names.ensures.first unpaired c.args.at))

pub returns-in-Some-in_members-clause-first : goal.returns-in-Some-in_members-clause-first
returns-in-Some-in_members-clause-first c =
    let world = c.args.world.now in
    let class = view_class c.args.class.now in
    λ unpaired. early_first unpaired world class c.args.at (view_typed c.args.typed.now) (Some c.in-Some-in_members.cause)
    (rw c.in_default.is at (c.cause_in_instructions.ensures.first unpaired world class c.args.at))
    (rw c.in_default-in_names.is at (c.in_ok-in_names.ensures.first unpaired c.args.at))
    (rw c.in-Some-in_members.is at (c.in_ok-in_members.ensures.first unpaired))

pub returns-in-None-clause-first : goal.returns-in-None-clause-first
returns-in-None-clause-first c =
    let world = c.args.world.now in
    let class = view_class c.args.class.now in
    λ unpaired. early_first unpaired world class c.args.at (view_typed c.args.typed.now) None
    (rw c.in_default.is at (c.cause_in_instructions.ensures.first unpaired world class c.args.at))
    (rw c.in_default-in_names.is at (c.in_ok-in_names.ensures.first unpaired c.args.at))
    (rw c.in-None.is at (c.in_ok-in_members.ensures.first unpaired))
