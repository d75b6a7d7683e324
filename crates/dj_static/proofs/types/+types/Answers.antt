use Rattle.std.proofs.Common.{sym, ap, ◌∙◌}
use Rattle.std.specs.Option.{option_map}
use Rattle.dj_names.specs.Types.{view_static}
use Rattle.dj_static.specs.Scopes.{scope_of}
use Rattle.dj_static.specs.Views.{context_in}
use Rattle.dj_static.proofs.ExpLemmas.{types_begin, types_more, types_end}
use Rattle.dj_static.proofs.types.+types.Goals as goal

pub types_of-loop-exp-init : goal.types_of-loop-exp-init
types_of-loop-exp-init t c = rw c.new-types.ensures (types_begin (context_in c.args.classes.now) (scope_of c.args.scope.now) c.args.exps.now)

pub types_of-loop-exp-preserved : goal.types_of-loop-exp-preserved
types_of-loop-exp-preserved t c =
    rw c.in_ok-push-in-Some.ensures.ok
    (types_more (context_in c.args.classes.now) (scope_of c.args.scope.now) c.args.exps.now c.loop-exp.exp-index c.exp-item.result c.in-Some.kind c.loop-exp.types c.loop-exp-test.true c.exp-item.is
    (sym (ap (option_map view_static) c.in-Some.is) ∙ c.in_ok-kind.ensures.typed) c.loop-exp.invariant)

pub types_of-returns : goal.types_of-returns
types_of-returns t c = record { typed = types_end (context_in c.args.classes.now) (scope_of c.args.scope.now) c.args.exps.now c.loop-exp.exp-index c.loop-exp.types c.loop-exp-test.false c.loop-exp.invariant }
