use Rattle.dj_members.proofs.member_table.MemberTable.names_at.Goals as goal

pub returns-clause-methods : goal.returns-clause-methods
returns-clause-methods c = λ own is. (c.self.invariant.fits c.args.place own (rw c.self.view_is is)).1
