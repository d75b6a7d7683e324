use Rattle.dj_syntax.specs.Trees.{view_stms}
use Rattle.dj_pending.specs.Stacks.{stacked}
use Rattle.dj_pending.specs.Entries.{view_entry}
use Rattle.dj_pending.specs.Building.{view_built}
use Rattle.dj_rebuilt.specs.Known.{atom_of_constant}
use Rattle.dj_pending.proofs.StepLemmas.{constant-behind}
use Rattle.dj_pending.proofs.built.Built.push_constant.Goals as goal

pub returns : goal.returns
returns c = record {
  pushed = constant-behind (view_stms c.args.self.now.emitted) c.args.self.now.next (stacked c.args.self.now.stack) (atom_of_constant c.args.constant.now) (view_entry c.in-Some.entry) (view_built c.push.new.self) (rw c.in-Some.is at c.in_ok-entry.ensures.entry) c.in_ok-push.ensures.pushed;
}
