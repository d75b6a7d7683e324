use Rattle.std.proofs.Common.{◌≡◌, ◌<◌, length, get_or, sym, ap, subst, ◌∙◌, arith}
use Rattle.dj_names.specs.Types.{view_type}
use Rattle.dj_syntax.specs.declared.variable.Var.{Var}
use Rattle.dj_static.specs.Scopes.{scope_of}
use Rattle.dj_meaning.specs.StaticTypes.{with_type}
use Rattle.dj_scopes.specs.Parameters as spec
use Rattle.dj_scopes.proofs.ParameterLemmas.{Opens, opens_one, opens_all}
use Rattle.dj_scopes.proofs.parameters.parameters_in.Goals as goal

pub loop-number-preserved : goal.loop-number-preserved
loop-number-preserved c =
    let test = c.loop-number-test.true in
    let count = c.count_of-count.ensures.count in
    let inside : c.loop-number.number < length c.types_of-kinds.result.now = omega (arith, test, count) in
    opens_one c.types_of-kinds.result.now c.loop-number.number c.in_ok-kind.kind (scope_of c.loop-number.scope) (scope_of c.declare.new.self) inside
    (c.in_ok-kind.ensures.equal ∙ c.index-kinds-number.is ∙ ap (get_or c.types_of-kinds.result.now c.loop-number.number) (sym c.in_ok-kind.ensures.equal))
    (λ other. c.in_ok-declare.ensures.ok other ∙ ap (λ (v : Var). with_type v (view_type c.in_ok-kind.kind) (scope_of c.loop-number.scope) other) c.parameter.ensures.parameter)
    c.loop-number.invariant

pub returns : goal.returns
returns c =
    let test = c.loop-number-test.false in
    let end = c.loop-number.auto.number-end in
    let same : c.loop-number.number ≡ c.count_of-count.result = omega (arith, test, end) in
    record {
      scope =
          opens_all c.types_of-kinds.result.now c.count_of-count.result (scope_of c.loop-number.scope) c.count_of-count.ensures.count
          (subst (λ n. Opens c.types_of-kinds.result.now n (scope_of c.loop-number.scope)) same c.loop-number.invariant)
          ∙ ap spec.parameters_in c.types_of-kinds.ensures.types;
    }
