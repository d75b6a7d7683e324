use Rattle.std.proofs.Common.{rules, append_assoc}
use Rattle.std.proofs.lemmas.Grind.{flat_map-append}
use Rattle.std.proofs.Common.{ap, refl, arith}
use Rattle.dj_names.specs.Types.{view_type}
use Rattle.dj_syntax.specs.declared.expression.Exp.{the_lemmas as exp_lemmas}
use Rattle.dj_syntax.proofs.TreeViews.{view_assign, view_binary, view_call, view_cast, view_choice, view_element, view_instance_of, view_negative, view_new, view_new_array, view_not, view_static_call, view_super_call}
use Rattle.dj_print.proofs.TreeTexts.{assign_text, binary_text, call_text, cast_text, choice_text, element_text, field_text, instance_of_text, new_array_text, new_text, parenthesised_text, static_call_text, super_call_text}
use Rattle.std.specs.List.{flat_map}
use Rattle.dj_syntax.specs.Items.{render}
use Rattle.dj_syntax.specs.Trees.{view_exp, view_exps}
use Rattle.dj_syntax.specs.UnitText.{arguments_items, exp_items}
use Rattle.dj_print.specs.Spelled.{spellings}
use Rattle.dj_print.proofs.Composing.{same}
use Rattle.dj_print.proofs.ListTexts.{all_done, argument_more, one_more, size_items, sizes_flat}
use Rattle.dj_print.proofs.WellFormedLists.{exp_item}
use Rattle.dj_print.proofs.Composing.{five, four, three, two}
use Rattle.dj_print.proofs.print.expression.+expression.Goals as goal

pub expression-returns-in-Element : goal.expression-returns-in-Element
expression-returns-in-Element g t c =
    record { prints = four g.O.Out.prints g.met.O.Out.then c.operand.ensures.prints c.put-in-Element.ensures.prints c.expression.ensures.prints c.put-in-Element-2.ensures.prints (let v = view_element c.in-Element.array c.in-Element.index in rw (c.in-Element.is, v, c.get-in-Element.ensures, c.get-in-Element-2.ensures) (element_text (spellings c.args.unit.now) (view_exp c.in-Element.array) (view_exp c.in-Element.index))) }

pub expression-returns-in-Call : goal.expression-returns-in-Call
expression-returns-in-Call g t c =
    record { prints = three g.O.Out.prints g.met.O.Out.then c.receiver.ensures.prints c.member.ensures.prints c.arguments.ensures.prints (let v = view_call c.in-Call.object c.in-Call.name c.in-Call.list in rw (c.in-Call.is, v, c.get-in-Call.ensures, c.as_slice-in-Call.ensures, c.get-in-Call-2.ensures) (call_text (spellings c.args.unit.now) (view_exp c.in-Call.object) c.in-Call.name (view_exps c.in-Call.list))) }

pub expression-returns-in-StaticCall : goal.expression-returns-in-StaticCall
expression-returns-in-StaticCall g t c =
    record { prints = two g.O.Out.prints g.met.O.Out.then c.member_of_class-in-StaticCall.ensures.prints c.arguments-in-StaticCall.ensures.prints (let v = view_static_call c.in-StaticCall.class c.in-StaticCall.name c.in-StaticCall.list in rw (c.in-StaticCall.is, v, c.as_slice-in-StaticCall.ensures, c.get-in-StaticCall.ensures) (static_call_text (spellings c.args.unit.now) c.in-StaticCall.class c.in-StaticCall.name (view_exps c.in-StaticCall.list))) }

pub expression-returns-in-SuperCall : goal.expression-returns-in-SuperCall
expression-returns-in-SuperCall g t c =
    record { prints = three g.O.Out.prints g.met.O.Out.then c.above.ensures.prints c.member-in-SuperCall.ensures.prints c.arguments-in-SuperCall.ensures.prints (let v = view_super_call c.in-SuperCall.interface c.in-SuperCall.name c.in-SuperCall.list in rw (c.in-SuperCall.is, v, c.as_slice-in-SuperCall.ensures, c.get-in-SuperCall.ensures) (super_call_text (spellings c.args.unit.now) c.in-SuperCall.interface c.in-SuperCall.name (view_exps c.in-SuperCall.list))) }

pub expression-returns-in-New : goal.expression-returns-in-New
expression-returns-in-New g t c =
    record { prints = two g.O.Out.prints g.met.O.Out.then c.new_class.ensures.prints c.arguments-in-New.ensures.prints (let v = view_new c.in-New.class c.in-New.list in rw (c.in-New.is, v, c.as_slice-in-New.ensures, c.get-in-New.ensures) (new_text (spellings c.args.unit.now) c.in-New.class (view_exps c.in-New.list))) }

pub expression-returns-in-NewArray : goal.expression-returns-in-NewArray
expression-returns-in-NewArray g t c =
    record { prints = three g.O.Out.prints g.met.O.Out.then c.new_type.ensures.prints c.sizes.ensures.prints c.pairs.ensures.prints (let v = view_new_array c.in-NewArray.kind c.in-NewArray.list c.in-NewArray.more in rw (c.in-NewArray.is, v, c.as_slice-in-NewArray.ensures, c.get-in-NewArray.ensures) (new_array_text (spellings c.args.unit.now) (view_type c.in-NewArray.kind) (view_exps c.in-NewArray.list) c.in-NewArray.more)) }

pub expression-returns-in-Cast : goal.expression-returns-in-Cast
expression-returns-in-Cast g t c =
    record { prints = two g.O.Out.prints g.met.O.Out.then c.cast_type.ensures.prints c.operand-in-Cast.ensures.prints (let v = view_cast c.in-Cast.kind c.in-Cast.cast in rw (c.in-Cast.is, v, c.get-in-Cast.ensures) (cast_text (spellings c.args.unit.now) (view_type c.in-Cast.kind) (view_exp c.in-Cast.cast))) }

pub expression-returns-in-InstanceOf : goal.expression-returns-in-InstanceOf
expression-returns-in-InstanceOf g t c =
    record { prints = two g.O.Out.prints g.met.O.Out.then c.operand-in-InstanceOf.ensures.prints c.tested_type.ensures.prints (let v = view_instance_of c.in-InstanceOf.value c.in-InstanceOf.kind in rw (c.in-InstanceOf.is, v, c.get-in-InstanceOf.ensures) (instance_of_text (spellings c.args.unit.now) (view_exp c.in-InstanceOf.value) (view_type c.in-InstanceOf.kind))) }

pub expression-returns-in-Negative : goal.expression-returns-in-Negative
expression-returns-in-Negative g t c =
    record { prints = two g.O.Out.prints g.met.O.Out.then c.put-in-Negative.ensures.prints c.negated.ensures.prints (let v = view_negative c.in-Negative.value in rw (c.in-Negative.is, v, c.get-in-Negative.ensures) (refl)) }

pub expression-returns-in-Not : goal.expression-returns-in-Not
expression-returns-in-Not g t c =
    record { prints = two g.O.Out.prints g.met.O.Out.then c.put-in-Not.ensures.prints c.operand-in-Not.ensures.prints (let v = view_not c.in-Not.value in rw (c.in-Not.is, v, c.get-in-Not.ensures) (refl)) }

pub expression-returns-in-Binary : goal.expression-returns-in-Binary
expression-returns-in-Binary g t c =
    record { prints = three g.O.Out.prints g.met.O.Out.then c.operand-in-Binary.ensures.prints c.operator.ensures.prints c.operand-in-Binary-2.ensures.prints (let v = view_binary c.in-Binary.op c.in-Binary.left c.in-Binary.right in rw (c.in-Binary.is, v, c.get-in-Binary.ensures, c.get-in-Binary-2.ensures) (binary_text (spellings c.args.unit.now) c.in-Binary.op (view_exp c.in-Binary.left) (view_exp c.in-Binary.right))) }

pub expression-returns-in-Choice : goal.expression-returns-in-Choice
expression-returns-in-Choice g t c =
    record { prints = five g.O.Out.prints g.met.O.Out.then c.operand-in-Choice.ensures.prints c.put-in-Choice.ensures.prints c.operand-in-Choice-2.ensures.prints c.put-in-Choice-2.ensures.prints c.operand-in-Choice-3.ensures.prints (let v = view_choice c.in-Choice.test c.in-Choice.first c.in-Choice.second in rw (c.in-Choice.is, v, c.get-in-Choice.ensures, c.get-in-Choice-2.ensures, c.get-in-Choice-3.ensures) (choice_text (spellings c.args.unit.now) (view_exp c.in-Choice.test) (view_exp c.in-Choice.first) (view_exp c.in-Choice.second))) }

pub expression-returns-in-Assign : goal.expression-returns-in-Assign
expression-returns-in-Assign g t c =
    record { prints = two g.O.Out.prints g.met.O.Out.then c.assigned.ensures.prints c.expression-in-Assign.ensures.prints (let v = view_assign c.in-Assign.variable c.in-Assign.value in rw (c.in-Assign.is, v, c.get-in-Assign.ensures) (assign_text (spellings c.args.unit.now) c.in-Assign.variable (view_exp c.in-Assign.value))) }

pub in_parentheses-returns : goal.in_parentheses-returns
in_parentheses-returns g t c =
    record { prints = three g.O.Out.prints g.met.O.Out.then c.put.ensures.prints c.expression.ensures.prints c.put-2.ensures.prints (parenthesised_text (exp_items (spellings c.args.unit.now) (view_exp c.args.value.now))) }

pub arguments-returns : goal.arguments-returns
arguments-returns g t c =
    record { prints = three g.O.Out.prints g.met.O.Out.then c.put.ensures.prints c.argument_list.ensures.prints c.put-2.ensures.prints (parenthesised_text (arguments_items (spellings c.args.unit.now) (view_exps c.args.list.now))) }

pub field-returns : goal.field-returns
field-returns g t c =
    record { prints = two g.O.Out.prints g.met.O.Out.then c.receiver.ensures.prints c.member.ensures.prints (field_text (spellings c.args.unit.now) (view_exp c.args.object.now) c.args.name.now) }

pub argument_list-expression-requires : goal.argument_list-expression-requires
argument_list-expression-requires g t c =
    let w = exp_item c.args.list.now c.loop-index.index _ (omega arith) c.index-list-index.is c.requires.well_formed in search (rules, exp_lemmas)

pub sizes-expression-requires : goal.sizes-expression-requires
sizes-expression-requires g t c =
    let w = exp_item c.args.list.now c.loop-exp.exp-index _ (omega arith) c.exp-item.is c.requires.well_formed in search (rules, exp_lemmas)

pub argument_list-loop-index-init : goal.argument_list-loop-index-init
argument_list-loop-index-init g t c = g.met.O.Out.nothing _

pub argument_list-loop-index-preserved : goal.argument_list-loop-index-preserved
argument_list-loop-index-preserved g t c =
    argument_more g.O.Out.prints g.met.O.Out.then (spellings c.args.unit.now) c.args.list.now c.loop-index.index _ (omega arith) c.index-list-index.is c.loop-index.invariant c.comma.ensures.prints c.expression.ensures.prints

pub argument_list-returns : goal.argument_list-returns
argument_list-returns g t c =
    record { prints = all_done g.O.Out.prints (λ list. render (arguments_items (spellings c.args.unit.now) (view_exps list))) c.args.list.now c.loop-index.index (omega arith) c.loop-index.invariant }

pub sizes-loop-exp-init : goal.sizes-loop-exp-init
sizes-loop-exp-init g t c = g.met.O.Out.nothing _

pub sizes-loop-exp-preserved : goal.sizes-loop-exp-preserved
sizes-loop-exp-preserved g t c =
    one_more g.O.Out.prints g.met.O.Out.then (size_items (spellings c.args.unit.now)) c.args.list.now c.loop-exp.exp-index _ (omega arith) c.exp-item.is c.loop-exp.invariant (three g.O.Out.prints g.met.O.Out.then c.put.ensures.prints c.expression.ensures.prints c.put-in-loop-exp.ensures.prints (search (rules, append_assoc, flat_map-append)))

pub sizes-returns : goal.sizes-returns
sizes-returns g t c =
    record { prints = same g.O.Out.prints (all_done g.O.Out.prints (λ list. render (flat_map (size_items (spellings c.args.unit.now)) list)) c.args.list.now c.loop-exp.exp-index (omega arith) c.loop-exp.invariant) (ap render (sizes_flat (spellings c.args.unit.now) c.args.list.now)) }
