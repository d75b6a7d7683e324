use Rattle.std.proofs.Common.{◌≡◌, map, ap, ◌∙◌}
use Rattle.std.proofs.lemmas.Result.{IfOk-weaker}
use Rattle.dj_names.specs.Types.{view_type}
use Rattle.dj_syntax.specs.Trees.{view_body, view_stms}
use Rattle.dj_syntax.specs.declared.unit.Body.{Body}
use Rattle.dj_code.specs.MethodCode.{view_typed}
use Rattle.dj_places.specs.Surroundings.{surroundings_of}
use Rattle.dj_code_variables.specs.Views.{view_vars}
use Rattle.dj_numbered.specs.Numbering.{numbered}
use Rattle.dj_method.specs.Parts.{entry_of}
use Rattle.dj_one_block.specs.OneBlock.{head_of}
use Rattle.dj_decompiled.specs.Decompiled.{lone_parts}
use Rattle.dj_decompile.specs.Answers.{lone_body}
use Rattle.dj_decompile.proofs.Finishing.{made_of}
use Rattle.dj_decompile.proofs.made.made_body.Goals as goal

pub returns : goal.returns
returns c =
    let typed = view_typed c.args.typed.now in
    let vars = view_vars c.args.vars.now in
    let declared = view_body c.in_ok-body.body in
    record {
      made = IfOk-weaker c.numbered.result (λ (made : Body). view_body made ≡ numbered declared) (λ (made : Body). view_body made ≡ lone_body c.args.classes.now typed vars (view_stms c.args.tree.now))
          (λ made is. made_of (surroundings_of c.args.classes.now) (head_of typed.code) (view_body c.in_ok-head.head) vars.kinds (map view_type c.kinds-kinds.result.now) (entry_of (lone_parts typed vars)) c.in_ok-entry.entry
          (map view_type c.parameters_of-parameters.result.now) (view_stms c.args.tree.now) (view_stms c.as_slice.result.now) declared (view_body made)
          c.in_ok-head.ensures.head c.kinds-kinds.ensures.kinds c.in_ok-entry.ensures.entry c.parameters_of-parameters.ensures.parameters (ap view_stms c.as_slice.ensures ∙ c.in_ok-tree.ensures.made)
          c.in_ok-body.ensures.declared is)
          c.numbered.ensures.numbered;
    }
