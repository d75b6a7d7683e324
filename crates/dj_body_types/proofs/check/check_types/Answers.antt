use Rattle.std.proofs.Common.{ap, ◌∙◌}
use Rattle.dj_syntax.specs.Trees.{view_body}
use Rattle.dj_typed.specs.Bodies.{around_in}
use Rattle.dj_body_types.specs.Views.{writing_of}
use Rattle.dj_body_types.specs.Walks.{walked}
use Rattle.dj_body_types.proofs.StatementLaw.{body_kept, body_broken}
use Rattle.dj_body_types.proofs.check.check_types.Goals as goal

pub returns-in-None-clause-kept : goal.returns-in-None-clause-kept
returns-in-None-clause-kept c =
    let body = view_body c.args.body.now in
    body_kept (around_in (writing_of c.args.said.now) c.args.headers.now c.args.members.now body) body _ _ c.in_ok-walk.walk
    (c.in_ok-walk.ensures.walked ∙ ap (λ around. walked around body) c.around-around.ensures.around) c.in-None.is

pub returns-in-Some-clause-broken : goal.returns-in-Some-clause-broken
returns-in-Some-clause-broken c =
    let body = view_body c.args.body.now in
    body_broken (around_in (writing_of c.args.said.now) c.args.headers.now c.args.members.now body) body _ _ c.in_ok-walk.walk
    (c.in_ok-walk.ensures.walked ∙ ap (λ around. walked around body) c.around-around.ensures.around) c.in-Some.fault c.in-Some.is
