use Rattle.std.proofs.Common.{refl}
use Rattle.std.proofs.lemmas.Bool.{false≢true}
use Rattle.dj_instructions.proofs.PlaceLemmas.{at_place, at_no_place}
use Rattle.dj_stack_map.proofs.places.start_at.Goals as goal

pub returns-in-Some : goal.returns-in-Some
returns-in-Some c =
    let at = at_place c.args.instructions.now c.args.at c.in-Some.place c.index-instructions-place.result c.requires.rising c.in-Some.ensures.place in
    record { place = c.in-Some.ensures.place; start = (c.in-Some.ensures.place.here c.index-instructions-place.result, rw (← at) refl) }

pub returns-in-None : goal.returns-in-None
returns-in-None c =
    let none = at_no_place c.args.instructions.now c.args.at c.in-None.ensures.place in
    record { place = tt; start = λ some. false≢true (rw (← none) at some) }
