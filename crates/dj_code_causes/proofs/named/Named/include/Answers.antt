use Rattle.std.proofs.Common.{sym}
use Rattle.dj_sayable.proofs.GatheringLemmas.{gains_one, just_more}
use Rattle.dj_code_causes.proofs.named.Named.include.Goals as goal

pub returns-clause-paired : goal.returns-clause-paired
returns-clause-paired c =
    let key = c.in_ok-key.key in
    rw c.in_ok-add_name.ensures.added
    (just_more c.args.self.now.known c.insert.new.self c.args.self.now.names key c.requires.paired c.in_ok-first.ensures.updates c.args.name.now (sym c.in_ok-key.ensures.equal))

pub returns-clause-gains : goal.returns-clause-gains
returns-clause-gains c = rw c.in_ok-add_name.ensures.added (gains_one c.args.self.now.names c.args.name.now)
