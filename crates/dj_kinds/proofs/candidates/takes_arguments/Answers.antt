use Rattle.std.proofs.Common.{length, map, sym, ap, ◌∙◌}
use Rattle.std.proofs.lemmas.List.{length-map}
use Rattle.std.proofs.lemmas.Bool.{eqb-true}
use Rattle.dj_names.specs.Types.{view_type, view_static}
use Rattle.dj_kinds.specs.Choice.{parameters}
use Rattle.dj_kinds.proofs.ChoiceLemmas.{as_many}
use Rattle.dj_kinds.proofs.candidates.takes_arguments.Goals as goal

pub returns-else-parameters-asked : goal.returns-else-parameters-asked
returns-else-parameters-asked c =
    let arguments = c.args.asked.now.arguments.now in
    record {
      takes = (
        λ is. absurd (c.if-parameters-asked.false (eqb-true _ _ is)),
        λ all. absurd (c.if-parameters-asked.false
            (sym (length-map c.parameters_of-parameters.result.now view_type) ∙ ap length c.parameters_of-parameters.ensures.parameters
            ∙ sym (as_many c.args.asked.now.headers.now (map view_static arguments) (parameters c.args.method.now) all) ∙ length-map arguments view_static)),
      );
    }
