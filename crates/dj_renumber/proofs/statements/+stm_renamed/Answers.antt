use Rattle.dj_renumber.specs.Views.{names_of}
use Rattle.dj_renumber.proofs.Lists.{stms_made, groups_made, catches_made}
use Rattle.dj_renumber.proofs.statements.+stm_renamed.Goals as goal

pub all_renamed-returns : goal.all_renamed-returns
all_renamed-returns t c = record { renamed = stms_made (names_of c.args.names.now) c.loop-statement.made c.args.list.now c.loop-statement.statement-index c.loop-statement-test.false c.loop-statement.invariant }

pub groups_renamed-returns : goal.groups_renamed-returns
groups_renamed-returns t c = record { renamed = groups_made (names_of c.args.names.now) c.loop-group.made c.args.list.now c.loop-group.group-index c.loop-group-test.false c.loop-group.invariant }

pub clauses_renamed-returns : goal.clauses_renamed-returns
clauses_renamed-returns t c = record { renamed = catches_made (names_of c.args.names.now) c.loop-clause.made c.args.list.now c.loop-clause.clause-index c.loop-clause-test.false c.loop-clause.invariant }
