use Rattle.dj_code.specs.MethodCode.{view_typed}
use Rattle.dj_method_causes.proofs.Causes.{dynamic_first, none_in_instructions}
use Rattle.dj_method_causes.proofs.method_causes.cause_in_instructions.Goals as goal

pub returns-in-Some-first_dynamic-clause-first : goal.returns-in-Some-first_dynamic-clause-first
returns-in-Some-first_dynamic-clause-first c =
    λ unpaired world class at. dynamic_first unpaired world class at (view_typed c.args.typed.now) (rw c.in_default.is at c.first_float.ensures.first) c.in-Some-first_dynamic.pc c.in-Some-first_dynamic.ensures.first

pub returns-in-None-clause-first : goal.returns-in-None-clause-first
returns-in-None-clause-first c =
    λ unpaired world class at. none_in_instructions unpaired world class at (view_typed c.args.typed.now) (rw c.in_default.is at c.first_float.ensures.first) c.in-None.ensures.first
