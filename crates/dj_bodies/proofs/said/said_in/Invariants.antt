use Rattle.std.proofs.Common.{take}
use Rattle.dj_names.specs.Headers.{names}
use Rattle.dj_bodies.specs.Said.{HasSaid}
use Rattle.dj_bodies.proofs.said.said_in.Given as goal

abbrev pub invariant-loop-header : goal.invariant-loop-header
invariant-loop-header l = HasSaid l.headers l.members.classes l.class (names (take l.header-index l.headers)) l.said
