use Rattle.std.proofs.Common.{◌∷◌, map, ap, ◌∙◌}
use Rattle.std.proofs.lemmas.Result.{IfOk-weaker}
use Rattle.dj_syntax.specs.Trees.{view_exp, view_group}
use Rattle.dj_statements.specs.OpenViews.{put, view_frame, view_kind, view_listed, view_outer}
use Rattle.dj_statements.proofs.PlaceLemmas.{switch_labelled}
use Rattle.dj_statements.proofs.lists.Lists.label_frame.Goals as goal

pub returns-in-Ok : goal.returns-in-Ok
returns-in-Ok c =
    let lists = c.args.self.now in
    let switch = c.in-InSwitch in
    record {
      added = IfOk-weaker c.push_brace.result _ _
          (λ next h was named before.
          h ∙ switch_labelled (put (view_frame c.args.frame ∷ view_outer lists.outer) (view_listed lists.list) (was, named, before)) (view_frame c.args.frame) (view_outer lists.outer) c.args.label
          (view_kind c.args.frame.kind) _ (view_exp switch.value) (map view_group switch.groups) switch.cases _ _
          (ap view_kind switch.is) (c.in-Ok.ensures.cases (view_exp switch.value)) (ap view_outer c.in-Ok.ensures.kept) c.in-Ok.ensures.none)
          c.push_brace.ensures.pushed;
    }
