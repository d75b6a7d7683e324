use Rattle.std.proofs.Common.{refl}
use Rattle.dj_world.specs.Worlds.{WorldOf}
use Rattle.dj_decompiled.specs.Decompiled.{plain}
use Rattle.dj_decompile.proofs.decompile.decompile_method.Goals as goal

pub returns-then-not-is_candidate : goal.returns-then-not-is_candidate
returns-then-not-is_candidate c =
    let world : WorldOf = record { headers = c.args.headers.now; members = c.args.members.now } in
    record { decompiled = plain (cc) (c.if-not-is_candidate.ensures.candidate world c.requires.known) refl }

pub returns-in-None : goal.returns-in-None
returns-in-None c = record { decompiled = plain (cc) (rw c.in-None.is at c.in_ok-body.ensures.found) refl }
