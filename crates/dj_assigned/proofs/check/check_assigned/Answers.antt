use Rattle.std.proofs.Common.{List, ap, ◌∙◌}
use Rattle.dj_syntax.specs.declared.statement.Stm.{Stm as code_stm}
use Rattle.dj_assigned.specs.Walks.{pass_list}
use Rattle.dj_syntax.specs.Trees.{view_body, view_stms}
use Rattle.dj_places.specs.Surroundings.{around_body}
use Rattle.dj_assigned.proofs.AssignedLaw.{body_kept, body_broken}
use Rattle.dj_assigned.proofs.check.check_assigned.Goals as goal

pub returns-in-None-clause-kept : goal.returns-in-None-clause-kept
returns-in-None-clause-kept c =
    body_kept (around_body c.args.headers.now c.args.members.now (view_body c.args.body.now)) (view_stms c.args.body.now.statements) c.new-course.result c.pass_list.new.course c.new-course.ensures.opening (c.in_ok-pass_list.ensures.walked ∙ ap (λ (list : List code_stm). pass_list (around_body c.args.headers.now c.args.members.now (view_body c.args.body.now)) (view_stms list) c.new-course.result) c.as_slice.ensures) c.in-None.is

pub returns-clause-unassigned : goal.returns-clause-unassigned
returns-clause-unassigned c =
    body_broken (around_body c.args.headers.now c.args.members.now (view_body c.args.body.now)) (view_stms c.args.body.now.statements) c.new-course.result c.pass_list.new.course c.in-Some.place c.new-course.ensures.opening (c.in_ok-pass_list.ensures.walked ∙ ap (λ (list : List code_stm). pass_list (around_body c.args.headers.now c.args.members.now (view_body c.args.body.now)) (view_stms list) c.new-course.result) c.as_slice.ensures) c.in-Some.is
