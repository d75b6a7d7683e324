use Rattle.std.proofs.Common.{◌∙◌, take, sym, ap, arith}
use Rattle.std.proofs.lemmas.List.{take_all, take_rest, length-take, length-drop}
use Rattle.std.proofs.lemmas.List.Elements.{All-push}
use Rattle.dj_names.specs.Utf8.{IsUnit}
use Rattle.dj_names.proofs.Utf8Lemmas.{only_units, no_units_at, spell_units-push}
use Rattle.dj_names.proofs.utf8.read_units.Goals as goal

pub returns-in_default : goal.returns-in_default
returns-in_default c =
    let i = c.loop-at.invariant in
    let none = no_units_at c.args.bytes.now c.loop-at.units.items c.loop-at.at i.units i.spelled c.loop-at-test.true
    (λ unit rest is same. c.in_default.ensures.none unit rest is (same ∙ sym (take_rest c.args.bytes.now c.loop-at.at))) in
    record { ok = tt; units = tt; value = none.unspelled; fault = (c.loop-at.at, c.place.ensures.place, none) }

pub returns-clause-value : goal.returns-clause-value
returns-clause-value c =
    let i = c.loop-at.invariant in
    rw c.in_ok-from_vec.ensures.units
    (only_units c.loop-at.units.items c.args.bytes.now (i.spelled ∙ take_all c.loop-at.at c.args.bytes.now c.loop-at-test.false))

pub loop-at-preserved : goal.loop-at-preserved
loop-at-preserved c =
    let i = c.loop-at.invariant in
    rw c.in_ok-push.ensures.items
    (record {
      within = omega (arith, simp (length-take, length-drop) at c.in-Some.ensures.within);
      units = All-push IsUnit c.loop-at.units.items c.in-Some.unit i.units c.in-Some.ensures.unit;
      spelled = spell_units-push c.loop-at.units.items c.args.bytes.now c.in-Some.unit c.loop-at.at c.in-Some.size i.spelled (c.in-Some.ensures.some ∙ ap (take c.in-Some.size) (take_rest c.args.bytes.now c.loop-at.at));
    })
