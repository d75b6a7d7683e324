use Rattle.std.proofs.Common.{rules}
use Rattle.std.proofs.lemmas.List.{map_push}
use Rattle.std.proofs.lemmas.Result.{err_from_is_err_and}
use Rattle.dj_names.specs.Types.{view_type, view_types}
use Rattle.dj_names.proofs.RestLemmas.{ParametersRead-push, ParametersRead-stops, ParametersRead-stopped, result_stopped, type_stopped, rest_stops_at_end, rest_stops_full}
use Rattle.dj_names.proofs.descriptors.read_method.Goals as goal

pub returns-in_err-result-clause-stops : goal.returns-in_err-result-clause-stops
returns-in_err-result-clause-stops c =
    let p = err_from_is_err_and c.from_residual.result c.from_residual.ensures.1 in
    rw (p.1, p.2)
    (result_stopped _ (view_types c.loop-unit.parameters.items) c.loop-unit.room c.args.unread.now c.loop-unit.unread c.next-close.new.self _ c.loop-unit.invariant (search rules) c.in_err-result.ensures.stops)

pub returns-then-room-eq0-clause-stops : goal.returns-then-room-eq0-clause-stops
returns-then-room-eq0-clause-stops c =
    ParametersRead-stops (view_types c.loop-unit.parameters.items) c.loop-unit.room c.args.unread.now c.loop-unit.unread c.loop-unit.unread c.loop-unit.invariant
    (rest_stops_full c.loop-unit.room c.in-Some.unit c.loop-unit.unread c.if-room-eq0.true c.if-unit-eq41.false c.in-Some.ensures.at_hand)

pub returns-in_err-kind-clause-stops : goal.returns-in_err-kind-clause-stops
returns-in_err-kind-clause-stops c =
    let r = c.from_residual-in_err-kind in
    let p = err_from_is_err_and r.result r.ensures.1 in
    rw (p.1, p.2)
    (ParametersRead-stopped _ (view_types c.loop-unit.parameters.items) c.loop-unit.room c.args.unread.now c.loop-unit.unread _ c.loop-unit.invariant
    (type_stopped _ c.loop-unit.room c.in-Some.unit c.loop-unit.unread _ c.if-unit-eq41.false c.in-Some.ensures.at_hand c.in_err-kind.ensures.stops))

pub loop-unit-preserved : goal.loop-unit-preserved
loop-unit-preserved c =
    rw (c.in_ok-push.ensures.items, map_push view_type c.loop-unit.parameters.items c.in_ok-kind.kind, c.words.ensures.words)
    (ParametersRead-push (view_types c.loop-unit.parameters.items) c.loop-unit.room c.args.unread.now c.loop-unit.unread c.read_type.new.unread (view_type c.in_ok-kind.kind)
    c.loop-unit.invariant c.in_ok-kind.ensures.within c.in_ok-kind.ensures.spelled)

pub returns-clause-stops : goal.returns-clause-stops
returns-clause-stops c =
    ParametersRead-stops (view_types c.loop-unit.parameters.items) c.loop-unit.room c.args.unread.now c.loop-unit.unread c.loop-unit.unread c.loop-unit.invariant
    (rest_stops_at_end c.loop-unit.room c.loop-unit.unread c.in_default.ensures.at_hand)
