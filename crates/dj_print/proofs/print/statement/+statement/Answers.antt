use Rattle.std.proofs.Common.{rules, append_assoc}
use Rattle.std.proofs.lemmas.Grind.{flat_map-append}
use Rattle.std.proofs.Common.{ap, refl, sym, subst, ◌∙◌, arith}
use Rattle.dj_syntax.specs.Trees.{view_exp, view_stm, view_stms, view_groups, view_catches}
use Rattle.dj_syntax.specs.UnitText.{deeper, stms_items}
use Rattle.dj_print.proofs.TreeTexts.{braced_text, catch_text, do_text, finally_text, for_text, if_text, labelled_text, switch_text, synchronized_text, try_text, while_text}
use Rattle.std.specs.List.{flat_map}
use Rattle.dj_syntax.specs.Items.{render}
use Rattle.dj_print.specs.Spelled.{spellings}
use Rattle.dj_syntax.specs.declared.statement.Stm.{the_lemmas as stm_lemmas}
use Rattle.dj_syntax.specs.declared.statement.Group.{the_lemmas as group_lemmas}
use Rattle.dj_syntax.specs.declared.statement.Catch.{the_lemmas as catch_lemmas}
use Rattle.dj_syntax.proofs.TreeLists.{view_group-is, view_catch-is}
use Rattle.dj_syntax.proofs.TreeViews.{view_do, view_finally, view_for, view_if, view_labelled, view_switch, view_synchronized, view_try, view_while}
use Rattle.dj_print.proofs.Composing.{same}
use Rattle.dj_print.proofs.ListTexts.{all_done, one_more, line_items, stms_flat, group_items, groups_flat, catch_items, catches_flat}
use Rattle.dj_print.proofs.WellFormedLists.{stm_item, group_item, catch_item}
use Rattle.dj_print.proofs.Composing.{five, four, three, two}
use Rattle.dj_print.proofs.print.statement.+statement.Goals as goal

pub braces-returns : goal.braces-returns
braces-returns g t c =
    record { prints = four g.O.Out.prints g.met.O.Out.then c.put.ensures.prints c.statements.ensures.prints c.line.ensures.prints c.put-2.ensures.prints (rw c.deeper.ensures.deeper (braced_text c.args.depth (stms_items (spellings c.args.unit.now) (deeper c.args.depth) (view_stms c.args.inner.now)))) }

pub otherwise-returns : goal.otherwise-returns
otherwise-returns g t c =
    record { prints = two g.O.Out.prints g.met.O.Out.then c.put.ensures.prints c.braces.ensures.prints (rw (sym c.is_empty.ensures.empty ∙ c.if-is_empty.false) refl) }

pub statement-returns-in-Labelled : goal.statement-returns-in-Labelled
statement-returns-in-Labelled g t c =
    record { prints = two g.O.Out.prints g.met.O.Out.then c.labelled.ensures.prints c.statement.ensures.prints (let v = view_labelled c.in-Labelled.label c.in-Labelled.inner in rw (c.in-Labelled.is, v, c.get.ensures) (labelled_text (spellings c.args.unit.now) c.args.depth c.in-Labelled.label (view_stm c.in-Labelled.inner))) }

pub statement-returns-in-If : goal.statement-returns-in-If
statement-returns-in-If g t c =
    record { prints = three g.O.Out.prints g.met.O.Out.then c.headed.ensures.prints c.braces-in-If.ensures.prints c.otherwise.ensures.prints (let v = view_if c.in-If.test c.in-If.first c.in-If.second in rw (c.in-If.is, v, c.as_slice-in-If.ensures, c.as_slice-in-If-2.ensures) (if_text (spellings c.args.unit.now) c.args.depth (view_exp c.in-If.test) (view_stms c.in-If.first) (view_stms c.in-If.second))) }

pub statement-returns-in-While : goal.statement-returns-in-While
statement-returns-in-While g t c =
    record { prints = two g.O.Out.prints g.met.O.Out.then c.headed-in-While.ensures.prints c.braces-in-While.ensures.prints (let v = view_while c.in-While.test c.in-While.body in rw (c.in-While.is, v, c.as_slice-in-While.ensures) (while_text (spellings c.args.unit.now) c.args.depth (view_exp c.in-While.test) (view_stms c.in-While.body))) }

pub statement-returns-in-Switch : goal.statement-returns-in-Switch
statement-returns-in-Switch g t c =
    record { prints = five g.O.Out.prints g.met.O.Out.then c.headed-in-Switch.ensures.prints c.put.ensures.prints c.groups.ensures.prints c.line.ensures.prints c.put-in-Switch.ensures.prints (let v = view_switch c.in-Switch.value c.in-Switch.list in rw (c.in-Switch.is, v, c.as_slice-in-Switch.ensures, c.deeper.ensures.deeper) (switch_text (spellings c.args.unit.now) c.args.depth (view_exp c.in-Switch.value) (view_groups c.in-Switch.list))) }

pub statement-returns-in-Try : goal.statement-returns-in-Try
statement-returns-in-Try g t c =
    record { prints = three g.O.Out.prints g.met.O.Out.then c.put-in-Try.ensures.prints c.braces-in-Try.ensures.prints c.catches.ensures.prints (let v = view_try c.in-Try.body c.in-Try.list in rw (c.in-Try.is, v, c.as_slice-in-Try.ensures, c.as_slice-in-Try-2.ensures) (try_text (spellings c.args.unit.now) c.args.depth (view_stms c.in-Try.body) (view_catches c.in-Try.list))) }

pub statement-returns-in-Synchronized : goal.statement-returns-in-Synchronized
statement-returns-in-Synchronized g t c =
    record { prints = two g.O.Out.prints g.met.O.Out.then c.headed-in-Synchronized.ensures.prints c.braces-in-Synchronized.ensures.prints (let v = view_synchronized c.in-Synchronized.monitor c.in-Synchronized.body in rw (c.in-Synchronized.is, v, c.as_slice-in-Synchronized.ensures) (synchronized_text (spellings c.args.unit.now) c.args.depth (view_exp c.in-Synchronized.monitor) (view_stms c.in-Synchronized.body))) }

pub statement-returns-in-Do : goal.statement-returns-in-Do
statement-returns-in-Do g t c =
    record { prints = three g.O.Out.prints g.met.O.Out.then c.put-in-Do.ensures.prints c.braces-in-Do.ensures.prints c.do_test.ensures.prints (let v = view_do c.in-Do.body c.in-Do.test in rw (c.in-Do.is, v, c.as_slice-in-Do.ensures) (do_text (spellings c.args.unit.now) c.args.depth (view_stms c.in-Do.body) (view_exp c.in-Do.test))) }

pub statement-returns-in-For : goal.statement-returns-in-For
statement-returns-in-For g t c =
    record { prints = two g.O.Out.prints g.met.O.Out.then c.for_head.ensures.prints c.braces-in-For.ensures.prints (let v = view_for c.in-For.test c.in-For.variable c.in-For.step c.in-For.body in rw (c.in-For.is, v, c.as_slice-in-For.ensures) (for_text (spellings c.args.unit.now) c.args.depth (view_exp c.in-For.test) c.in-For.variable (view_exp c.in-For.step) (view_stms c.in-For.body))) }

pub statement-returns-in-Finally : goal.statement-returns-in-Finally
statement-returns-in-Finally g t c =
    record { prints = four g.O.Out.prints g.met.O.Out.then c.put-in-Finally.ensures.prints c.braces-in-Finally.ensures.prints c.put-in-Finally-2.ensures.prints c.braces-in-Finally-2.ensures.prints (let v = view_finally c.in-Finally.body c.in-Finally.last in rw (c.in-Finally.is, v, c.as_slice-in-Finally.ensures, c.as_slice-in-Finally-2.ensures) (finally_text (spellings c.args.unit.now) c.args.depth (view_stms c.in-Finally.body) (view_stms c.in-Finally.last))) }

pub statements-statement-requires : goal.statements-statement-requires
statements-statement-requires g t c =
    let w = stm_item _ c.args.list.now c.loop-item.item-index _ (omega arith) c.item-item.is c.requires.well_formed in search (rules, stm_lemmas, group_lemmas, catch_lemmas)

pub groups-group-requires : goal.groups-group-requires
groups-group-requires g t c =
    let w = group_item _ c.args.list.now c.loop-one.one-index _ (omega arith) c.one-item.is c.requires.well_formed in search (rules, stm_lemmas, group_lemmas, catch_lemmas)

pub group-returns : goal.group-returns
group-returns g t c =
    record { prints = two g.O.Out.prints g.met.O.Out.then c.cases.ensures.prints c.statements.ensures.prints (rw (c.as_slice.ensures, c.as_slice-2.ensures, c.deeper.ensures.deeper) (search (rules, append_assoc, flat_map-append))) }

pub catches-caught-requires : goal.catches-caught-requires
catches-caught-requires g t c =
    record { qualified = (catch_item _ c.args.list.now c.loop-catch.catch-index _ (omega arith) c.catch-item.is c.requires.well_formed).0 }

pub catches-braces-requires : goal.catches-braces-requires
catches-braces-requires g t c =
    let w = (catch_item _ c.args.list.now c.loop-catch.catch-index _ (omega arith) c.catch-item.is c.requires.well_formed).1 in search (rules, stm_lemmas, group_lemmas, catch_lemmas)

pub statements-loop-item-init : goal.statements-loop-item-init
statements-loop-item-init g t c = g.met.O.Out.nothing _

pub statements-loop-item-preserved : goal.statements-loop-item-preserved
statements-loop-item-preserved g t c =
    one_more g.O.Out.prints g.met.O.Out.then (line_items (spellings c.args.unit.now) c.args.depth) c.args.list.now c.loop-item.item-index _ (omega arith) c.item-item.is c.loop-item.invariant (two g.O.Out.prints g.met.O.Out.then c.line.ensures.prints c.statement.ensures.prints (search (rules, append_assoc, flat_map-append)))

pub statements-returns : goal.statements-returns
statements-returns g t c =
    record { prints = same g.O.Out.prints (all_done g.O.Out.prints (λ list. render (flat_map (line_items (spellings c.args.unit.now) c.args.depth) list)) c.args.list.now c.loop-item.item-index (omega arith) c.loop-item.invariant) (ap render (stms_flat (spellings c.args.unit.now) c.args.depth c.args.list.now)) }

pub groups-loop-one-init : goal.groups-loop-one-init
groups-loop-one-init g t c = g.met.O.Out.nothing _

pub groups-loop-one-preserved : goal.groups-loop-one-preserved
groups-loop-one-preserved g t c =
    one_more g.O.Out.prints g.met.O.Out.then (group_items (spellings c.args.unit.now) c.args.depth) c.args.list.now c.loop-one.one-index _ (omega arith) c.one-item.is c.loop-one.invariant (let e = view_group-is c.one-item.result in same g.O.Out.prints c.group.ensures.prints (rw e refl))

pub groups-returns : goal.groups-returns
groups-returns g t c =
    record { prints = same g.O.Out.prints (all_done g.O.Out.prints (λ list. render (flat_map (group_items (spellings c.args.unit.now) c.args.depth) list)) c.args.list.now c.loop-one.one-index (omega arith) c.loop-one.invariant) (ap render (groups_flat (spellings c.args.unit.now) c.args.depth c.args.list.now)) }

pub catches-loop-catch-init : goal.catches-loop-catch-init
catches-loop-catch-init g t c = g.met.O.Out.nothing _

pub catches-loop-catch-preserved : goal.catches-loop-catch-preserved
catches-loop-catch-preserved g t c =
    one_more g.O.Out.prints g.met.O.Out.then (catch_items (spellings c.args.unit.now) c.args.depth) c.args.list.now c.loop-catch.catch-index _ (omega arith) c.catch-item.is c.loop-catch.invariant (let e = view_catch-is c.catch-item.result in two g.O.Out.prints g.met.O.Out.then c.caught.ensures.prints c.braces.ensures.prints (rw (e, c.as_slice.ensures) (catch_text (spellings c.args.unit.now) c.args.depth c.catch-item.result.class c.catch-item.result.variable (view_stms c.catch-item.result.body))))

pub catches-returns : goal.catches-returns
catches-returns g t c =
    record { prints = same g.O.Out.prints (all_done g.O.Out.prints (λ list. render (flat_map (catch_items (spellings c.args.unit.now) c.args.depth) list)) c.args.list.now c.loop-catch.catch-index (omega arith) c.loop-catch.invariant) (ap render (catches_flat (spellings c.args.unit.now) c.args.depth c.args.list.now)) }
