use Rattle.std.proofs.Common.{sym}
use Rattle.std.proofs.lemmas.Bool.{false≢true}
use Rattle.dj_tags.proofs.SlotLemmas.{none_goes}
use Rattle.dj_tags.proofs.frames.slot_goes.Goals as goal

pub returns-in_default : goal.returns-in_default
returns-in_default g c =
    record { goes = (λ yes. absurd (false≢true yes), λ goes. absurd (none_goes (g.G.Goes.relation c.args.goes.now) c.args.from.now c.args.slot c.args.to.now (sym c.in-None.ensures.tag) c.in_default.not-Top goes)) }
