use Rattle.std.proofs.Common.{◌≡◌, ℕ, ◌+◌, List, length, map, Some, refl, sym, ap, subst, ◌∙◌}
use Rattle.std.specs.Prelude.{IfOk, option_map, option_and_then}
use Rattle.dj_names.specs.Types.{Of, view_type, view_static}
use Rattle.dj_syntax.specs.declared.expression.Exp as code_exp
use Rattle.dj_syntax.specs.Trees as trees
use Rattle.dj_syntax.specs.Trees.{view_exp, view_exps}
use Rattle.dj_syntax.proofs.TreeViews.{view_call, view_static_call, view_super_call, view_new, view_new_array}
use Rattle.dj_meaning.specs.Promotions.{promoted}
use Rattle.dj_meaning.specs.StaticTypes.{plain, typed, array_of, types_of}
use Rattle.dj_static.specs.Scopes.{scope_of}
use Rattle.dj_static.proofs.ExpLemmas.{count_is}
use Rattle.dj_typing.specs.Sites.{context_of}
use Rattle.dj_typing.specs.Expressions.{is_index}
use Rattle.dj_checked.specs.Sites.{site_of}
use Rattle.dj_checked.specs.Walks as spec
use Rattle.dj_checked.proofs.ListLemmas.{joined, walk_more, walk_end, types_begin, types_more, types_end, sizes_more, sizes_end}
use Rattle.dj_checked.proofs.PartLemmas.{sized_is}
use Rattle.dj_checked.proofs.PassLemmas.{view_field, one_part, listed_parts, sized_parts, called_parts}
use Rattle.dj_checked.proofs.expressions.+pass_exp.Goals as goal

pub pass_field-returns : goal.pass_field-returns
pass_field-returns t c = record {
  walked = one_part (site_of c.args.site.now) (scope_of c.args.scope.now) c.args.walk.now (λ place kind walk. spec.note_field (site_of c.args.site.now) place c.args.name.now kind walk) (view_exp c.args.operand.now) c.step-place.ensures.stepped c.step-place.ensures.place c.in_ok-operand.ensures.walked c.in_ok-operand.ensures.typed c.in_ok-found.ensures.walked;
  typed = c.in_ok-found.ensures.typed ∙ ap (spec.field_type (site_of c.args.site.now) c.args.name.now) c.in_ok-operand.ensures.typed;
}

pub pass_cast-returns : goal.pass_cast-returns
pass_cast-returns t c = record {
  walked = one_part (site_of c.args.site.now) (scope_of c.args.scope.now) c.args.walk.now (λ place kind walk. spec.note_cast (site_of c.args.site.now) place (view_type c.args.kind.now) kind walk) (view_exp c.args.operand.now) c.step-place.ensures.stepped c.step-place.ensures.place c.in_ok-operand.ensures.walked c.in_ok-operand.ensures.typed c.in_ok-found.ensures.walked;
  typed = c.in_ok-found.ensures.typed;
}

pub pass_instance_of-returns : goal.pass_instance_of-returns
pass_instance_of-returns t c = record {
  walked = one_part (site_of c.args.site.now) (scope_of c.args.scope.now) c.args.walk.now (λ place kind walk. spec.note_instance_of (site_of c.args.site.now) place (view_type c.args.kind.now) kind walk) (view_exp c.args.operand.now) c.step-place.ensures.stepped c.step-place.ensures.place c.in_ok-operand.ensures.walked c.in_ok-operand.ensures.typed c.in_ok-found.ensures.walked;
  typed = c.in_ok-found.ensures.typed;
}

pub pass_negative-returns : goal.pass_negative-returns
pass_negative-returns t c = record {
  walked = one_part (site_of c.args.site.now) (scope_of c.args.scope.now) c.args.walk.now (λ place kind walk. spec.note_negative place kind walk) (view_exp c.args.operand.now) c.step-place.ensures.stepped c.step-place.ensures.place c.in_ok-operand.ensures.walked c.in_ok-operand.ensures.typed c.negative.ensures.walked;
  typed = c.negative.ensures.typed ∙ ap (λ kind. typed (option_and_then promoted (plain kind))) c.in_ok-operand.ensures.typed;
}

pub pass_not-returns : goal.pass_not-returns
pass_not-returns t c = record {
  walked = one_part (site_of c.args.site.now) (scope_of c.args.scope.now) c.args.walk.now (λ place kind walk. spec.note_not place kind walk) (view_exp c.args.operand.now) c.step-place.ensures.stepped c.step-place.ensures.place c.in_ok-operand.ensures.walked c.in_ok-operand.ensures.typed c.opposite.ensures.walked;
  typed = c.opposite.ensures.typed;
}

pub pass_assign-returns : goal.pass_assign-returns
pass_assign-returns t c = record {
  walked = one_part (site_of c.args.site.now) (scope_of c.args.scope.now) c.args.walk.now (λ place kind walk. spec.note_assign (site_of c.args.site.now) place (scope_of c.args.scope.now c.args.variable) kind walk) (view_exp c.args.operand.now) c.step-place.ensures.stepped c.step-place.ensures.place c.in_ok-operand.ensures.walked c.in_ok-operand.ensures.typed (c.in_ok-found.ensures.walked ∙ ap (λ declared. spec.note_assign (site_of c.args.site.now) c.step-place.result declared (option_map view_static c.in_ok-operand.operand) c.pass_exp.new.walk) c.kind-declared.ensures.kind);
  typed = c.in_ok-found.ensures.typed ∙ ap typed c.kind-declared.ensures.kind;
}

pub pass_static_call-returns : goal.pass_static_call-returns
pass_static_call-returns t c = record {
  walked = listed_parts (site_of c.args.site.now) (scope_of c.args.scope.now) c.args.walk.now (λ place given walk. spec.note_static_call (site_of c.args.site.now) place c.args.class.now c.args.name.now given walk) (view_exps c.args.arguments.now) c.step-place.ensures.stepped c.step-place.ensures.place c.in_ok-given.ensures.walked c.in_ok-given.ensures.typed c.in_ok-found.ensures.walked;
  typed = c.in_ok-found.ensures.typed ∙ ap (spec.static_call_type (site_of c.args.site.now) c.args.class.now c.args.name.now) c.in_ok-given.ensures.typed;
}

pub pass_super_call-returns : goal.pass_super_call-returns
pass_super_call-returns t c = record {
  walked = listed_parts (site_of c.args.site.now) (scope_of c.args.scope.now) c.args.walk.now (λ place given walk. spec.note_super_call (site_of c.args.site.now) place c.args.above.now c.args.name.now given walk) (view_exps c.args.arguments.now) c.step-place.ensures.stepped c.step-place.ensures.place c.in_ok-given.ensures.walked c.in_ok-given.ensures.typed c.in_ok-found.ensures.walked;
  typed = c.in_ok-found.ensures.typed ∙ ap (spec.super_call_type (site_of c.args.site.now) c.args.above.now c.args.name.now) c.in_ok-given.ensures.typed;
}

pub pass_new-returns : goal.pass_new-returns
pass_new-returns t c = record {
  walked = listed_parts (site_of c.args.site.now) (scope_of c.args.scope.now) c.args.walk.now (λ place given walk. spec.note_new (site_of c.args.site.now) place c.args.class.now given walk) (view_exps c.args.arguments.now) c.step-place.ensures.stepped c.step-place.ensures.place c.in_ok-given.ensures.walked c.in_ok-given.ensures.typed c.in_ok-found.ensures.walked;
  typed = c.in_ok-found.ensures.typed;
}

pub pass_new_array-returns : goal.pass_new_array-returns
pass_new_array-returns t c = record {
  walked = sized_parts (site_of c.args.site.now) (scope_of c.args.scope.now) c.args.walk.now (λ place sized indexed walk. spec.note_new_array (site_of c.args.site.now) place (view_type c.args.kind.now) sized indexed walk) (view_exps c.args.sizes.now) _
      c.step-place.ensures.stepped c.step-place.ensures.place c.in_ok-indexed.ensures.walked c.in_ok-indexed.ensures.indexed (sized_is c.args.sizes.now (length c.args.sizes.now) refl) c.in_ok-found.ensures.walked;
  typed = c.in_ok-found.ensures.typed ∙ ap (λ (count : ℕ). Some (Of (array_of (count + c.args.more) (view_type c.args.kind.now)))) (sym (count_is c.args.sizes.now));
}

pub pass_exps-loop-exp-init : goal.pass_exps-loop-exp-init
pass_exps-loop-exp-init t c = record {
  walked = refl;
  typed = types_begin (site_of c.args.site.now) (scope_of c.args.scope.now) c.args.list.now ∙ ap (λ list. joined (Some (map view_static list)) (types_of (context_of (site_of c.args.site.now)) (scope_of c.args.scope.now) (view_exps c.args.list.now))) (sym c.new.ensures);
}

pub pass_exps-loop-exp-preserved : goal.pass_exps-loop-exp-preserved
pass_exps-loop-exp-preserved t c = record {
  walked = walk_more (site_of c.args.site.now) (scope_of c.args.scope.now) c.args.list.now c.loop-exp.exp-index c.exp-item.result c.loop-exp.walk c.pass_exp.new.walk _ c.loop-exp-test.true c.exp-item.is c.in_ok-kind.ensures.walked c.loop-exp.invariant.walked;
  typed = types_more (site_of c.args.site.now) (scope_of c.args.scope.now) c.args.list.now c.loop-exp.exp-index c.exp-item.result (option_map (map view_static) c.loop-exp.types) _ (option_map view_static c.in_ok-kind.kind) c.loop-exp-test.true c.exp-item.is
      c.in_ok-kind.ensures.typed c.in_ok-types.ensures.typed c.loop-exp.invariant.typed;
}

pub pass_exps-returns : goal.pass_exps-returns
pass_exps-returns t c = record {
  walked = walk_end (site_of c.args.site.now) (scope_of c.args.scope.now) c.args.list.now c.loop-exp.exp-index c.loop-exp.walk _ c.loop-exp-test.false c.loop-exp.invariant.walked;
  typed = types_end (site_of c.args.site.now) (scope_of c.args.scope.now) c.args.list.now c.loop-exp.exp-index (option_map (map view_static) c.loop-exp.types) c.loop-exp-test.false c.loop-exp.invariant.typed;
}

pub pass_sizes-loop-exp-preserved : goal.pass_sizes-loop-exp-preserved
pass_sizes-loop-exp-preserved t c = record {
  walked = walk_more (site_of c.args.site.now) (scope_of c.args.scope.now) c.args.list.now c.loop-exp.exp-index c.exp-item.result c.loop-exp.walk c.pass_exp.new.walk _ c.loop-exp-test.true c.exp-item.is c.in_ok-kind.ensures.walked c.loop-exp.invariant.walked;
  indexed = sizes_more (site_of c.args.site.now) (scope_of c.args.scope.now) c.args.list.now c.loop-exp.exp-index c.exp-item.result c.loop-exp.indexed _ (is_index (option_map view_static c.in_ok-kind.kind)) c.loop-exp-test.true c.exp-item.is
      (ap is_index c.in_ok-kind.ensures.typed) c.and_index-indexed.ensures.indexed c.loop-exp.invariant.indexed;
}

pub pass_sizes-returns : goal.pass_sizes-returns
pass_sizes-returns t c = record {
  walked = walk_end (site_of c.args.site.now) (scope_of c.args.scope.now) c.args.list.now c.loop-exp.exp-index c.loop-exp.walk _ c.loop-exp-test.false c.loop-exp.invariant.walked;
  indexed = sizes_end (site_of c.args.site.now) (scope_of c.args.scope.now) c.args.list.now c.loop-exp.exp-index c.loop-exp.indexed c.loop-exp-test.false c.loop-exp.invariant.indexed;
}

pub pass_exp-returns-in-Field-clause-walked : goal.pass_exp-returns-in-Field-clause-walked
pass_exp-returns-in-Field-clause-walked t c =
    let tree : view_exp c.args.exp.now ≡ trees.Field (view_exp c.get.result.now) c.in-Field.name = ap view_exp c.in-Field.is ∙ view_field c.in-Field.object c.in-Field.name ∙ ap (λ (object : code_exp.Exp). trees.Field (view_exp object) c.in-Field.name) (sym c.get.ensures) in
    subst (λ (exp : trees.Exp). IfOk c.pass_field.result (λ _. c.pass_field.new.walk ≡ spec.pass_exp (site_of c.args.site.now) (scope_of c.args.scope.now) exp c.args.walk.now)) (sym tree) c.pass_field.ensures.walked

pub pass_exp-returns-in_ok-found-in-Call-clause-walked : goal.pass_exp-returns-in_ok-found-in-Call-clause-walked
pass_exp-returns-in_ok-found-in-Call-clause-walked t c =
    let tree : view_exp c.args.exp.now ≡ trees.Call (view_exp c.get-in-Call.result.now) c.in-Call.name (view_exps c.as_slice.result.now) =
    ap view_exp c.in-Call.is ∙ view_call c.in-Call.object c.in-Call.name c.in-Call.arguments
    ∙ ap (λ (object : code_exp.Exp). trees.Call (view_exp object) c.in-Call.name (view_exps c.in-Call.arguments)) (sym c.get-in-Call.ensures)
    ∙ ap (λ (list : List code_exp.Exp). trees.Call (view_exp c.get-in-Call.result.now) c.in-Call.name (view_exps list)) (sym (c.as_slice.ensures ∙ c.get-in-Call-2.ensures)) in
    called_parts (site_of c.args.site.now) (scope_of c.args.scope.now) c.args.walk.now (λ place kind given walk. spec.note_call (site_of c.args.site.now) place c.in-Call.name kind given walk) (view_exp c.get-in-Call.result.now) (view_exps c.as_slice.result.now)
    c.step-place-in-Call.ensures.stepped c.step-place-in-Call.ensures.place c.in_ok-object-in-Call.ensures.walked c.in_ok-object-in-Call.ensures.typed c.in_ok-given-in-Call.ensures.walked c.in_ok-given-in-Call.ensures.typed
    c.in_ok-found-in-Call.ensures.walked ∙ ap (λ exp. spec.pass_exp (site_of c.args.site.now) (scope_of c.args.scope.now) exp c.args.walk.now) (sym tree)

pub pass_exp-returns-in-StaticCall-clause-walked : goal.pass_exp-returns-in-StaticCall-clause-walked
pass_exp-returns-in-StaticCall-clause-walked t c =
    let tree : view_exp c.args.exp.now ≡ trees.StaticCall c.in-StaticCall.class c.in-StaticCall.name (view_exps c.as_slice-arguments.result.now) = ap view_exp c.in-StaticCall.is ∙ view_static_call c.in-StaticCall.class c.in-StaticCall.name c.in-StaticCall.arguments ∙ ap (λ (list : List code_exp.Exp). trees.StaticCall c.in-StaticCall.class c.in-StaticCall.name (view_exps list)) (sym (c.as_slice-arguments.ensures ∙ c.get-in-StaticCall.ensures)) in
    subst (λ (exp : trees.Exp). IfOk c.pass_static_call.result (λ _. c.pass_static_call.new.walk ≡ spec.pass_exp (site_of c.args.site.now) (scope_of c.args.scope.now) exp c.args.walk.now)) (sym tree) c.pass_static_call.ensures.walked

pub pass_exp-returns-in-SuperCall-clause-walked : goal.pass_exp-returns-in-SuperCall-clause-walked
pass_exp-returns-in-SuperCall-clause-walked t c =
    let tree : view_exp c.args.exp.now ≡ trees.SuperCall c.in-SuperCall.above c.in-SuperCall.name (view_exps c.as_slice-arguments-in-SuperCall.result.now) = ap view_exp c.in-SuperCall.is ∙ view_super_call c.in-SuperCall.above c.in-SuperCall.name c.in-SuperCall.arguments ∙ ap (λ (list : List code_exp.Exp). trees.SuperCall c.in-SuperCall.above c.in-SuperCall.name (view_exps list)) (sym (c.as_slice-arguments-in-SuperCall.ensures ∙ c.get-in-SuperCall.ensures)) in
    subst (λ (exp : trees.Exp). IfOk c.pass_super_call.result (λ _. c.pass_super_call.new.walk ≡ spec.pass_exp (site_of c.args.site.now) (scope_of c.args.scope.now) exp c.args.walk.now)) (sym tree) c.pass_super_call.ensures.walked

pub pass_exp-returns-in-New-clause-walked : goal.pass_exp-returns-in-New-clause-walked
pass_exp-returns-in-New-clause-walked t c =
    let tree : view_exp c.args.exp.now ≡ trees.New c.in-New.class (view_exps c.as_slice-in-New.result.now) = ap view_exp c.in-New.is ∙ view_new c.in-New.class c.in-New.arguments ∙ ap (λ (list : List code_exp.Exp). trees.New c.in-New.class (view_exps list)) (sym (c.as_slice-in-New.ensures ∙ c.get-in-New.ensures)) in
    subst (λ (exp : trees.Exp). IfOk c.pass_new.result (λ _. c.pass_new.new.walk ≡ spec.pass_exp (site_of c.args.site.now) (scope_of c.args.scope.now) exp c.args.walk.now)) (sym tree) c.pass_new.ensures.walked

pub pass_exp-returns-in-NewArray-clause-walked : goal.pass_exp-returns-in-NewArray-clause-walked
pass_exp-returns-in-NewArray-clause-walked t c =
    let tree : view_exp c.args.exp.now ≡ trees.NewArray (view_type c.in-NewArray.kind) (view_exps c.as_slice-sizes.result.now) c.in-NewArray.more = ap view_exp c.in-NewArray.is ∙ view_new_array c.in-NewArray.kind c.in-NewArray.sizes c.in-NewArray.more ∙ ap (λ (list : List code_exp.Exp). trees.NewArray (view_type c.in-NewArray.kind) (view_exps list) c.in-NewArray.more) (sym (c.as_slice-sizes.ensures ∙ c.get-in-NewArray.ensures)) in
    subst (λ (exp : trees.Exp). IfOk c.pass_new_array.result (λ _. c.pass_new_array.new.walk ≡ spec.pass_exp (site_of c.args.site.now) (scope_of c.args.scope.now) exp c.args.walk.now)) (sym tree) c.pass_new_array.ensures.walked
