use Rattle.std.proofs.Common.{◌-◌, rules, arith}
use Rattle.std.proofs.lemmas.Result.{err_from_is_err_and, IfErr-weaker}
use Rattle.dj_names.proofs.TypeLemmas.{array_stopped, class_stopped, primitive_stopped, deep_stopped, end_stopped}
use Rattle.dj_names.proofs.descriptors.+read_type.Goals as goal

pub returns-then-depth-eq0-clause-stops : goal.returns-then-depth-eq0-clause-stops
returns-then-depth-eq0-clause-stops t c = deep_stopped _ _ _ c.requires c.if-depth-eq0.true (search rules)

pub returns-in_err-element-in-Some-eq91-clause-stops :
    goal.returns-in_err-element-in-Some-eq91-clause-stops
returns-in_err-element-in-Some-eq91-clause-stops t c =
    let p = err_from_is_err_and c.from_residual.result c.from_residual.ensures.1 in
    rw (p.1, p.2)
    (array_stopped _ c.args.depth (c.args.depth - 1) c.args.room c.args.unread.now c.next-bracket.new.self _ c.requires (omega arith) (search rules) c.in_err-element-in-Some-eq91.ensures.stops)

pub returns-in_err-read_class-in-Some-eq76-clause-stops :
    goal.returns-in_err-read_class-in-Some-eq76-clause-stops
returns-in_err-read_class-in-Some-eq76-clause-stops t c =
    let r = c.from_residual-in_err-read_class-in-Some-eq76 in
    let p = err_from_is_err_and r.result r.ensures.1 in
    rw (p.1, p.2)
    (class_stopped _ c.args.depth c.args.room c.args.unread.now c.next-letter.new.self _ c.requires (search rules) c.in_err-read_class-in-Some-eq76.ensures.stops)

pub returns-in-Some-clause-stops : goal.returns-in-Some-clause-stops
returns-in-Some-clause-stops t c =
    IfErr-weaker c.read_primitive.result _ _
    (λ stop h. primitive_stopped stop c.args.depth c.args.room c.in-Some.unit c.args.unread.now _ c.requires c.in-Some.unit-test.0.1 c.in-Some.unit-test.1 c.in-Some.ensures.at_hand h)
    c.read_primitive.ensures.none

pub returns-in-None-clause-stops : goal.returns-in-None-clause-stops
returns-in-None-clause-stops t c = end_stopped _ _ _ c.requires (search rules)
