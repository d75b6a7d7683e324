use Rattle.std.proofs.Common.{arith}
use Rattle.dj_names.specs.Types.{view_type}
use Rattle.dj_member_trees.proofs.ArrayLemmas.{sizes-next, sizes-end, sizes-all}
use Rattle.dj_member_trees.proofs.arrays.behind_sizes.Goals as goal

pub returns-in-None : goal.returns-in-None
returns-in-None c = record { behind = sizes-end c.args.count c.loop.counter (omega arith) (view_type c.loop.at.now) _ c.loop.invariant c.in-None.ensures.element }

pub loop-preserved : goal.loop-preserved
loop-preserved c = sizes-next c.args.count c.loop.counter (omega arith) (view_type c.loop.at.now) _ c.loop.invariant (view_type c.in-Some.element.now) c.in-Some.ensures.element

pub returns : goal.returns
returns c = record { behind = sizes-all c.args.count c.loop.counter (omega arith) (view_type c.loop.at.now) _ c.loop.invariant }
