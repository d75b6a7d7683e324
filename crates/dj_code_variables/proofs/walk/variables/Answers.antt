use Rattle.std.proofs.Common.{[], map, ap, ◌∙◌}
use Rattle.dj_names.specs.Types.{view_type}
use Rattle.dj_code.specs.MethodCode.{view_typed}
use Rattle.dj_numbers.specs.Numbers.{view_variables}
use Rattle.dj_numbers.specs.Frames.{view_first, with_frames}
use Rattle.dj_code_variables.specs.Views.{kinds_of}
use Rattle.dj_code_variables.proofs.Walked.{are-vars, kinds-are}
use Rattle.dj_code_variables.proofs.walk.variables.Goals as goal

pub returns-clause-vars : goal.returns-clause-vars
returns-clause-vars c =
    let most = c.args.typed.now.code.max_locals in
    are-vars (view_typed c.args.typed.now) c.args.starts.now (map view_first c.in_ok-firsts.firsts) c.in_ok-firsts.ensures.firsts
    (view_variables c.add_frames.new.numbers.variables) (view_variables c.add_stores.new.numbers.variables) c.in_ok-after.after (map view_type c.in_ok-kinds.kinds) c.in_ok-after.ensures.chained.distinct
    (c.in_ok-add_frames.ensures.variables
    ∙ ap (λ variables. with_frames most (view_variables variables) (map view_first c.as_slice.result.now)) c.new-numbers.ensures.none
    ∙ ap (λ firsts. with_frames most [] (map view_first firsts)) c.as_slice.ensures)
    c.in_ok-after.ensures.stored
    (c.in_ok-kinds.ensures.kinds ∙ ap kinds_of c.as_slice-2.ensures ∙ kinds-are c.add_stores.new.numbers.variables)
