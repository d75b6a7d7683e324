use Rattle.std.proofs.Common.{length, refl, subst}
use Rattle.dj_members.specs.Tables.{KeepsTables}
use Rattle.dj_members.proofs.TableLemmas.{KeepsTables-push, KeepsTables-grows, popped_same}
use Rattle.dj_members.proofs.member_table.MemberTable.push.Goals as goal

pub invariant_of-self-in-Ok : goal.invariant_of-self-in-Ok
invariant_of-self-in-Ok c =
    let t = c.self.inside in
    rw (c.in-Ok.ensures.ok, c.in_ok-push.ensures.ok)
    (KeepsTables-push t.members.classes t.tables t.sites.names c.add.new.self.names t.sites.members c.add.new.self.members c.self.invariant c.add.ensures.grows c.args.class c.in_ok-table.table (length t.members.classes) c.in_ok-table.ensures.names refl
    (rw c.len.ensures at c.in_ok-add.ensures.fields) (rw c.len.ensures at c.in_ok-add.ensures.methods) (rw c.self.view_is c.requires.room) c.requires.fields c.requires.methods)

pub invariant_of-self-in-Err : goal.invariant_of-self-in-Err
invariant_of-self-in-Err c =
    let t = c.self.inside in
    rw c.in-Err.ensures.err
    (subst (λ ts. KeepsTables t.members.classes ts c.add.new.self.names c.add.new.self.members) (popped_same t.tables c.push.new.self c.pop.new.self c.in_ok-table.table c.pop.result c.in_ok-push.ensures.ok c.pop.ensures)
    (KeepsTables-grows t.members.classes t.tables t.sites.names c.add.new.self.names t.sites.members c.add.new.self.members c.self.invariant c.add.ensures.grows))
