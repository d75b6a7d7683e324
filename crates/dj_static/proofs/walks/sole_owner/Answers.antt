use Rattle.std.proofs.Common.{List, Bool, length, slice_get, refl, sym, ap, ◌∙◌, arith}
use Rattle.std.proofs.lemmas.List.{length-replicate, length_push}
use Rattle.dj_static.specs.declared.walks.Walk.{Walk}
use Rattle.dj_static.specs.Walks.{only}
use Rattle.dj_static.proofs.WalkLemmas.{none_met, started, stepped, sole_is}
use Rattle.dj_static.proofs.walks.sole_owner.Goals as goal

pub loop-place-init : goal.loop-place-init
loop-place-init c =
    let walk = c.new-walk.result in
    let headers = c.args.classes.now.headers.now in
    rw c.in_ok-meet_named.ensures.ok
    (started headers c.args.classes.now.members.now c.args.class.now c.args.name.now c.as_slice.ensures.distinct walk (ap length c.new-walk.ensures.met ∙ length-replicate _ _ ∙ ap length c.as_slice.ensures.headers)
    (λ p met. none_met _ p (ap (λ (marks : List Bool). slice_get marks p) (sym c.new-walk.ensures.met) ∙ met)) c.new-walk.ensures.waiting c.new-walk.ensures.owners)

pub loop-place-smaller : goal.loop-place-smaller
loop-place-smaller c =
    let walk = c.loop-place.walk in
    let before : Walk = record { met = walk.met; waiting = c.pop.new.self; owners = walk.owners } in
    let step = stepped c.args.classes.now.headers.now c.args.classes.now.members.now c.args.class.now c.args.name.now c.as_slice.ensures.distinct walk before c.pop.new.self c.in-Some.place c.loop-place.invariant c.in-Some.ensures refl refl refl in
    rw c.in_ok-look.ensures.ok (omega (arith, step.rest, ap length c.in-Some.ensures, length_push c.pop.new.self c.in-Some.place))

pub loop-place-preserved : goal.loop-place-preserved
loop-place-preserved c =
    let walk = c.loop-place.walk in
    let before : Walk = record { met = walk.met; waiting = c.pop.new.self; owners = walk.owners } in
    rw c.in_ok-look.ensures.ok
    (stepped c.args.classes.now.headers.now c.args.classes.now.members.now c.args.class.now c.args.name.now c.as_slice.ensures.distinct walk before c.pop.new.self c.in-Some.place c.loop-place.invariant c.in-Some.ensures refl refl refl).walking

pub returns : goal.returns
returns c =
    let walk = c.loop-place.walk in
    record {
      distinct = c.as_slice.ensures.distinct;
      owner = sole_is c.args.classes.now.headers.now c.args.classes.now.members.now c.args.class.now c.args.name.now c.as_slice.ensures.distinct walk c.loop-place.invariant c.in_default.ensures.0 c.only.result (c.only.ensures.only ∙ ap only c.as_slice-2.ensures);
    }
