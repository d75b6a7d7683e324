use Rattle.std.proofs.Common.{sym, ap₂, ◌∙◌}
use Rattle.dj_syntax.specs.Trees.{view_body}
use Rattle.dj_thrown.specs.Walks.{first_escaping}
use Rattle.dj_thrown.proofs.CheckLemmas.{body_kept, body_broken}
use Rattle.dj_thrown.proofs.check.check_thrown.Goals as goal

pub returns-in-None-clause-kept : goal.returns-in-None-clause-kept
returns-in-None-clause-kept c =
    body_kept c.args.headers.now c.args.members.now (view_body c.args.body.now) c.in_ok-walk.walk c.in_ok-walk.ensures.walked c.in_ok-escaping.escaping
    (c.in_ok-escaping.ensures.first ∙ ap₂ (first_escaping c.args.headers.now) c.as_slice-declared.ensures c.as_slice.ensures) (sym c.lower.ensures.lower ∙ c.in-None.is)

pub returns-clause-broken : goal.returns-clause-broken
returns-clause-broken c =
    body_broken c.args.headers.now c.args.members.now (view_body c.args.body.now) c.in_ok-walk.walk c.in_ok-walk.ensures.walked c.in_ok-escaping.escaping c.in-Some.fault
    (c.in_ok-escaping.ensures.first ∙ ap₂ (first_escaping c.args.headers.now) c.as_slice-declared.ensures c.as_slice.ensures) (sym c.lower.ensures.lower ∙ c.in-Some.is)
