use Rattle.std.proofs.Common.{subst}
use Rattle.dj_members.proofs.ChainLemmas.{Stands, AllSeen, stands-last, smaller, all-step}
use Rattle.dj_members.proofs.name_table.all_named.Goals as goal

pub loop-place-smaller : goal.loop-place-smaller
loop-place-smaller g c =
    let names = c.args.names.now in
    let name = c.args.name.now in
    smaller names name c.loop-place.place c.before-place.result c.in-Some.at c.in-Some.is (c.before-place.ensures.last name (subst (Stands names name) c.in-Some.is c.loop-place.invariant.stands))

pub loop-place-preserved : goal.loop-place-preserved
loop-place-preserved g c =
    let names = c.args.names.now in
    let name = c.args.name.now in
    let picks = g.P.Picker.picks c.args.picker.now in
    let last = c.before-place.ensures.last name (subst (Stands names name) c.in-Some.is c.loop-place.invariant.stands) in
    record {
      stands = stands-last names name c.in-Some.at c.before-place.result last;
      seen = all-step names name picks c.in-Some.at c.before-place.result last (c.picks.ensures.0 c.if-not-picks.false) (subst (AllSeen names name picks) c.in-Some.is c.loop-place.invariant.seen);
    }
