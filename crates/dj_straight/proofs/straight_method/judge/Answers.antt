use Rattle.std.proofs.lemmas.Result.{IfOk-weaker}
use Rattle.dj_class.specs.Views.{view_class, view_method}
use Rattle.dj_code.specs.MethodCode.{view_code}
use Rattle.dj_straight.proofs.StraightMethodLemmas.{not_first}
use Rattle.dj_straight.proofs.straight_method.judge.Goals as goal

pub returns-in-Some-clause-judged : goal.returns-in-Some-clause-judged
returns-in-Some-clause-judged c =
    IfOk-weaker c.judge_first.result _ _ (λ judged holds before held. holds before (rw c.in-Some.is at (c.in_ok-parameters.ensures.admitted before held))) c.judge_first.ensures.judged

pub returns-in-None-clause-judged : goal.returns-in-None-clause-judged
returns-in-None-clause-judged c = λ before held.
    not_first (view_class c.args.class.now) before (view_method c.args.method.now) (view_code c.args.code.now) c.requires.spelled (rw c.in-None.is at (c.in_ok-parameters.ensures.admitted before held))
