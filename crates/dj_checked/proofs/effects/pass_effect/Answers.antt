use Rattle.std.proofs.Common.{◌≡◌, List, sym, ap, subst, ◌∙◌}
use Rattle.std.specs.Prelude.{IfOk}
use Rattle.dj_syntax.specs.declared.expression.Exp as code_exp
use Rattle.dj_syntax.specs.Trees as trees
use Rattle.dj_syntax.specs.Trees.{view_exp, view_exps}
use Rattle.dj_syntax.proofs.TreeViews.{view_call, view_static_call}
use Rattle.dj_static.specs.Scopes.{scope_of}
use Rattle.dj_checked.specs.Sites.{site_of}
use Rattle.dj_checked.specs.Walks as spec
use Rattle.dj_checked.proofs.effects.pass_effect.Goals as goal

pub returns-in-Call : goal.returns-in-Call
returns-in-Call c =
    let tree : view_exp c.args.exp.now ≡ trees.Call (view_exp c.get-in-Call.result.now) c.in-Call.name (view_exps c.as_slice-arguments.result.now) =
    ap view_exp c.in-Call.is ∙ view_call c.in-Call.object c.in-Call.name c.in-Call.arguments
    ∙ ap (λ (object : code_exp.Exp). trees.Call (view_exp object) c.in-Call.name (view_exps c.in-Call.arguments)) (sym c.get-in-Call.ensures)
    ∙ ap (λ (list : List code_exp.Exp). trees.Call (view_exp c.get-in-Call.result.now) c.in-Call.name (view_exps list)) (sym (c.as_slice-arguments.ensures ∙ c.get.ensures)) in
    record {
      walked = subst (λ (exp : trees.Exp). IfOk c.pass_call.result (λ _. c.pass_call.new.walk ≡ spec.pass_effect (site_of c.args.site.now) (scope_of c.args.scope.now) exp c.args.walk.now)) (sym tree) c.pass_call.ensures.walked;
    }

pub returns-in-StaticCall : goal.returns-in-StaticCall
returns-in-StaticCall c =
    let tree : view_exp c.args.exp.now ≡ trees.StaticCall c.in-StaticCall.class c.in-StaticCall.name (view_exps c.as_slice-arguments-in-StaticCall.result.now) =
    ap view_exp c.in-StaticCall.is ∙ view_static_call c.in-StaticCall.class c.in-StaticCall.name c.in-StaticCall.arguments
    ∙ ap (λ (list : List code_exp.Exp). trees.StaticCall c.in-StaticCall.class c.in-StaticCall.name (view_exps list)) (sym (c.as_slice-arguments-in-StaticCall.ensures ∙ c.get-in-StaticCall.ensures)) in
    record {
      walked = subst (λ (exp : trees.Exp). IfOk c.pass_static_call.result (λ _. c.pass_static_call.new.walk ≡ spec.pass_effect (site_of c.args.site.now) (scope_of c.args.scope.now) exp c.args.walk.now)) (sym tree) c.pass_static_call.ensures.walked;
    }
