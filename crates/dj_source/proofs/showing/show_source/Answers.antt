use Rattle.std.proofs.Common.{map, ap, ◌∙◌}
use Rattle.std.specs.Prelude.{reverse, option_map}
use Rattle.std.specs.Option.{option_copied}
use Rattle.dj_names.specs.Types.{parameters_of, view_type}
use Rattle.dj_syntax.specs.Trees.{view_body}
use Rattle.dj_values.specs.Views.{view_reference, view_value, view_values, view_action, view_answer, view_end}
use Rattle.dj_values.specs.Fits.{is_static}
use Rattle.dj_outside.specs.Runs.{world_of, state_of}
use Rattle.dj_static.specs.Scopes.{scope_of}
use Rattle.dj_meaning.specs.Members.{view_members}
use Rattle.dj_meaning.specs.StaticTypes.{Context}
use Rattle.dj_meaning.specs.Meaning.{of_parameter}
use Rattle.dj_objects.specs.Runs.{values_of, run_state}
use Rattle.dj_source.specs.Running.{ended_statements}
use Rattle.dj_source.proofs.ShowLemmas.{all_in_scope, few_behind, context_is, show_is}
use Rattle.dj_source.proofs.showing.show_source.Goals as goal

pub returns : goal.returns
returns c = record {
  show = λ few_parameters few_arguments.
      let headers = c.args.headers.now in
      let members = c.args.members.now in
      let body = view_body c.args.body.now in
      let arguments = view_values c.args.arguments.now in
      let answers = map view_answer c.args.answers.now in
      let bound = c.args.bound in
      let result = option_map view_type (option_copied c.result_of.result) in
      let this = option_map view_value (option_copied c.parts_of_arguments.result.0) in
      let constructs = c.is_constructor.result in
      let context : Context = record { headers = headers; members = map view_members members; class = body.class; result = result; this = this; constructs = constructs } in
      let scope = scope_of c.in_ok-scope.scope in
      let values = values_of c.in_ok-values.values in
      let held = map view_reference (reverse c.new.result) in
      let world = world_of c.new-2.result in
      let new = run_state c.run_body-outcome.new.run in
      show_is headers members body arguments answers bound context scope values held world (map view_action c.into_actions.result) new.world.actions (view_end c.in_ok-end.end)
      (context_is headers members body arguments answers bound result this constructs c.result_of.ensures.result c.parts_of_arguments.ensures.this c.is_constructor.ensures.constructor)
      (all_in_scope (parameters_of body.descriptor) scope few_parameters c.in_ok-scope.ensures.scope)
      (λ variable. c.in_ok-values.ensures.values (few_behind (is_static body.flags) c.args.arguments.now c.parts_of_arguments.result.1.now c.parts_of_arguments.ensures.rest few_arguments) variable
      ∙ ap (λ items. of_parameter items variable) c.parts_of_arguments.ensures.rest)
      (ap (λ list. map view_reference (reverse list)) c.new.ensures)
      c.new-2.ensures.opening c.into_actions.ensures.actions
      (c.in_ok-end.ensures.end new (ended_statements context scope bound body.statements (state_of (record { variables = values; held = held }) world)) c.run_body-outcome.ensures.done);
}
