use Rattle.std.proofs.Common.{arith, Some, refl, sym, ap, ◌∙◌}
use Rattle.std.specs.Prelude.{if◌then◌else◌}
use Rattle.dj_values.specs.Views.{view_value}
use Rattle.dj_meaning.specs.StaticTypes.{is_same_variable}
use Rattle.dj_objects.specs.Runs.{values_of}
use Rattle.dj_source.specs.Running.{parameter}
use Rattle.dj_source.proofs.ShowLemmas.{no_parameter, first_parameters, all_parameters}
use Rattle.dj_source.proofs.showing.parameter_values.Goals as goal

pub loop-argument-init : goal.loop-argument-init
loop-argument-init c = λ few. (refl, λ variable. c.new-values.ensures.empty variable ∙ sym (no_parameter variable))

pub loop-argument-preserved : goal.loop-argument-preserved
loop-argument-preserved c = λ few.
    let so_far = c.loop-argument.invariant few in (
      omega (arith, so_far.0),
      first_parameters view_value c.args.arguments.now c.loop-argument.argument-index c.loop-argument.number c.argument-item.result (values_of c.loop-argument.values) (values_of c.put.new.self) c.loop-argument-test.true c.argument-item.is so_far.0 so_far.1
          (λ variable. c.in_ok-put.ensures.ok variable
          ∙ ap (λ own. if is_same_variable variable own then Some (view_value c.in_ok-copy.copy) else values_of c.loop-argument.values variable) c.parameter.ensures.parameter
          ∙ ap (λ type. if is_same_variable variable (parameter c.loop-argument.number) then Some (view_value type) else values_of c.loop-argument.values variable) c.in_ok-copy.ensures.equal),
    )

pub returns : goal.returns
returns c = record { values = λ few. all_parameters view_value c.args.arguments.now c.loop-argument.argument-index (values_of c.loop-argument.values) c.loop-argument-test.false (c.loop-argument.invariant few).1 }
