use Rattle.std.proofs.Common.{Bool, not, List, sym, ap₂, ◌∙◌}
use Rattle.dj_syntax.specs.declared.statement.Stm.{Stm as code_stm}
use Rattle.dj_syntax.specs.Trees.{view_body, view_stms}
use Rattle.dj_places.specs.Surroundings.{around_body}
use Rattle.dj_reach.specs.Walks.{pass_list}
use Rattle.dj_reach.proofs.CheckLemmas.{body_kept, body_ends_badly, body_broken}
use Rattle.dj_reach.proofs.check.check_reach.Goals as goal

pub returns-then-not-ends_well-clause-unreached : goal.returns-then-not-ends_well-clause-unreached
returns-then-not-ends_well-clause-unreached c =
    body_ends_badly c.args.headers.now c.args.members.now (view_body c.args.body.now) c.new-walk.result c.pass_list.new.walk c.new-walk.ensures.opening
    (c.in_ok-pass_list.ensures.walked
    ∙ ap₂ (λ (b : Bool) (list : List code_stm). pass_list (record { around = around_body c.args.headers.now c.args.members.now (view_body c.args.body.now); may_return = not b }) (view_stms list) c.new-walk.result)
    c.is_initialiser.ensures.initialiser c.as_slice.ensures)
    (sym c.ends_well.ensures.well ∙ c.if-not-ends_well.true)

pub returns-in-None-clause-kept : goal.returns-in-None-clause-kept
returns-in-None-clause-kept c =
    body_kept c.args.headers.now c.args.members.now (view_body c.args.body.now) c.new-walk.result c.pass_list.new.walk c.new-walk.ensures.opening
    (c.in_ok-pass_list.ensures.walked
    ∙ ap₂ (λ (b : Bool) (list : List code_stm). pass_list (record { around = around_body c.args.headers.now c.args.members.now (view_body c.args.body.now); may_return = not b }) (view_stms list) c.new-walk.result)
    c.is_initialiser.ensures.initialiser c.as_slice.ensures)
    (sym c.ends_well.ensures.well ∙ c.if-not-ends_well.false) c.in-None.is

pub returns-clause-unreached : goal.returns-clause-unreached
returns-clause-unreached c =
    body_broken c.args.headers.now c.args.members.now (view_body c.args.body.now) c.new-walk.result c.pass_list.new.walk c.in-Some.place c.new-walk.ensures.opening
    (c.in_ok-pass_list.ensures.walked
    ∙ ap₂ (λ (b : Bool) (list : List code_stm). pass_list (record { around = around_body c.args.headers.now c.args.members.now (view_body c.args.body.now); may_return = not b }) (view_stms list) c.new-walk.result)
    c.is_initialiser.ensures.initialiser c.as_slice.ensures)
    (sym c.ends_well.ensures.well ∙ c.if-not-ends_well.false) c.in-Some.is
