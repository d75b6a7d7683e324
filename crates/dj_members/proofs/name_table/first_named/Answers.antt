use Rattle.std.proofs.Common.{subst, sym}
use Rattle.std.proofs.lemmas.Bool.{both_ways}
use Rattle.dj_members.proofs.ChainLemmas.{Stands, Seen, stands-last, smaller, seen-skip, seen-take}
use Rattle.dj_members.proofs.name_table.first_named.Goals as goal
use Rattle.dj_members.proofs.name_table.first_named.Goals.{then-picks, else-picks}

pub loop-place-smaller : goal.loop-place-smaller
loop-place-smaller g c =
    let names = c.args.names.now in
    let name = c.args.name.now in
    smaller names name c.loop-place.place c.before-place.result c.in-Some.at c.in-Some.is (c.before-place.ensures.last name (subst (Stands names name) c.in-Some.is c.loop-place.invariant.stands))

pub loop-place-preserved : goal.loop-place-preserved
loop-place-preserved g c =
    let names = c.args.names.now in
    let name = c.args.name.now in
    let picks = g.P.Picker.picks c.args.picker.now in
    let here = subst (Stands names name) c.in-Some.is c.loop-place.invariant.stands in
    let last = c.before-place.ensures.last name here in
    record {
      stands = stands-last names name c.in-Some.at c.before-place.result last;
      seen = elim c.if-picks.branch [
        | then-picks w ↦ subst (Seen names name picks c.before-place.result) (sym w.found-is) (seen-take names name picks c.in-Some.at c.before-place.result last here (c.picks.ensures.0 w.if-picks.true))
        | else-picks w ↦
            subst (Seen names name picks c.before-place.result) (sym w.found-is)
            (seen-skip names name picks c.in-Some.at c.before-place.result c.loop-place.found last (λ is. both_ways c.picks.result w.if-picks.false (c.picks.ensures.1 is))
            (subst (λ p. Seen names name picks p c.loop-place.found) c.in-Some.is c.loop-place.invariant.seen))
      ];
    }
