use Rattle.std.proofs.lemmas.Result.{IfOk-weaker}
use Rattle.dj_syntax.specs.Trees.{view_body, view_stms}
use Rattle.dj_world.specs.Worlds.{WorldOf}
use Rattle.dj_code.specs.MethodCode.{view_typed}
use Rattle.dj_code_variables.specs.Views.{view_vars}
use Rattle.dj_decompile.specs.Answers.{IsDone, IsFound}
use Rattle.dj_decompile.proofs.Finishing.{with_tree}
use Rattle.dj_decompile.proofs.decompile.with_tree.Goals as goal

pub returns : goal.returns
returns c =
    let world : WorldOf = record { headers = c.args.headers.now; members = c.args.members.now } in
    let typed = view_typed c.args.typed.now in
    let made = view_body c.in_ok-body.body in
    record {
      found = IfOk-weaker c.finished.result (IsDone world typed made) (IsFound world typed)
          (λ found done. with_tree world typed c.requires.candidate c.requires.one (view_vars c.args.vars.now) c.requires.vars c.classes_of-classes.result (view_stms c.args.tree.now) made found
          c.classes_of-classes.ensures.classes c.requires.tree c.in_ok-body.ensures.made done)
          c.finished.ensures.finished;
    }
