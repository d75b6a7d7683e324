use Rattle.std.proofs.Common.{sym, ◌∙◌}
use Rattle.dj_sayable.proofs.GatheringLemmas.{gains_one, continues_one, just_more, not_yet}
use Rattle.dj_sayable.proofs.above.Found.add.Goals as goal

pub returns-clause-paired : goal.returns-clause-paired
returns-clause-paired c =
    let key = c.in_ok-key.key in
    let copy = c.in_ok-copy.copy in
    rw c.in_ok-push.ensures.ok
    (just_more c.args.self.now.known c.insert.new.self c.args.self.now.names key c.requires.paired c.in_ok-first.ensures.updates copy (c.in_ok-copy.ensures.equal ∙ sym c.in_ok-key.ensures.equal))

pub returns-clause-gains : goal.returns-clause-gains
returns-clause-gains c = rw (c.in_ok-push.ensures.ok, c.in_ok-copy.ensures.equal) (gains_one c.args.self.now.names c.args.name.now)

pub returns-clause-continues : goal.returns-clause-continues
returns-clause-continues c =
    let names = c.args.self.now.names in
    let copy = c.in_ok-copy.copy in
    rw c.in_ok-push.ensures.ok
    (continues_one names copy (not_yet c.args.self.now.known names c.in_ok-key.key copy c.in_ok-first.first c.requires.paired (c.in_ok-copy.ensures.equal ∙ sym c.in_ok-key.ensures.equal) c.in_ok-first.ensures.added c.if-not-first.false))
