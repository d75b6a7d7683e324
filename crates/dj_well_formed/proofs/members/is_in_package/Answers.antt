use Rattle.std.proofs.Common.{◌∷◌}
use Rattle.dj_well_formed.proofs.JoinedNames.{joined}
use Rattle.dj_well_formed.proofs.members.is_in_package.Goals as goal

pub returns-in-Some : goal.returns-in-Some
returns-in-Some c =
    record { parts = joined c.args.front.now (47 ∷ c.args.simple.now) c.args.name.now c.in-Some.rest.now c.is_joined.result c.in-Some.ensures.parts c.is_joined.ensures.parts }
