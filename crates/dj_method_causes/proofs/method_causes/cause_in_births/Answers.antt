use Rattle.dj_code.specs.MethodCode.{view_typed}
use Rattle.dj_method_causes.proofs.Causes.{unborn_first, large_first, none_in_births}
use Rattle.dj_method_causes.proofs.method_causes.cause_in_births.Goals as goal

pub returns-in-Some-unborn-clause-first : goal.returns-in-Some-unborn-clause-first
returns-in-Some-unborn-clause-first c =
    λ unpaired class at. unborn_first unpaired c.args.world.now class at (view_typed c.args.typed.now) (rw c.in_default.is at c.in_ok-before.ensures.first) c.in-Some-unborn.pc (rw c.in-Some-unborn.is at c.in_ok-unborn.ensures.first)

pub returns-in-Some-much-clause-first : goal.returns-in-Some-much-clause-first
returns-in-Some-much-clause-first c =
    λ unpaired class at. large_first unpaired c.args.world.now class at (view_typed c.args.typed.now) (rw c.in_default.is at c.in_ok-before.ensures.first) (rw c.in_default-unborn.is at c.in_ok-unborn.ensures.first) c.in-Some-much.count
    (rw c.in-Some-much.is at c.in_ok-much.ensures.much)

pub returns-in-None-clause-first : goal.returns-in-None-clause-first
returns-in-None-clause-first c =
    λ unpaired class at. none_in_births unpaired c.args.world.now class at (view_typed c.args.typed.now) (rw c.in_default.is at c.in_ok-before.ensures.first) (rw c.in_default-unborn.is at c.in_ok-unborn.ensures.first) (rw c.in-None.is at c.in_ok-much.ensures.much)
