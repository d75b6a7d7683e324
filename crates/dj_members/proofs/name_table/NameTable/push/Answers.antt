use Rattle.std.proofs.Common.{◌∙◌}
use Rattle.dj_members.proofs.ChainLemmas.{pushed}
use Rattle.dj_members.proofs.name_table.NameTable.push.Goals as goal

pub invariant_of-self-in-Ok : goal.invariant_of-self-in-Ok
invariant_of-self-in-Ok c =
    rw c.in_ok-push.ensures.ok
    (pushed c.self.inside.links c.in_ok-name.name c.in_ok-key.key c.args.name.now c.copied-before.result c.len-at.result c.self.inside.last c.insert.new.self c.self.invariant c.in_ok-name.ensures.equal c.in_ok-key.ensures.equal
    (c.copied-before.ensures ∙ c.get.ensures.value) c.len-at.ensures c.in-Ok.ensures.updates)
