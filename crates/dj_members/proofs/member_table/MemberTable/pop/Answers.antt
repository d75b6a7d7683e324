use Rattle.dj_members.proofs.TableLemmas.{KeepsTables-pop}
use Rattle.dj_members.proofs.member_table.MemberTable.pop.Goals as goal

pub invariant_of-self : goal.invariant_of-self
invariant_of-self c =
    let t = c.self.inside in
    KeepsTables-pop t.members.classes c.pop-2.new.self t.tables c.pop.new.self t.sites.names t.sites.members c.pop-2.result c.pop.result c.self.invariant c.pop-2.ensures c.pop.ensures
