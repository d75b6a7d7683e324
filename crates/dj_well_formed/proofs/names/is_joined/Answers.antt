use Rattle.std.specs.Cmp.{unsigned_Decides}
use Rattle.std.proofs.lemmas.Slice.Eq.{slice_eq-Decides}
use Rattle.dj_well_formed.proofs.JoinedNames.{joined}
use Rattle.dj_well_formed.proofs.names.is_joined.Goals as goal

pub returns-in-Some : goal.returns-in-Some
returns-in-Some c =
    let rest = c.in-Some.rest.now in
    record { parts = joined c.args.front.now c.args.back.now c.args.name.now rest c.eq.result c.in-Some.ensures.parts (slice_eq-Decides unsigned_Decides rest c.args.back.now c.eq.result c.eq.ensures) }
