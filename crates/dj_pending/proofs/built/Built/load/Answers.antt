use Rattle.std.proofs.Common.{sym, ◌∙◌}
use Rattle.dj_names.specs.Types.{view_static}
use Rattle.dj_syntax.specs.Trees.{view_stms}
use Rattle.dj_pending.specs.Entries.{view_atom}
use Rattle.dj_pending.specs.Stacks.{stacked}
use Rattle.dj_pending.specs.Steps.{view_local}
use Rattle.dj_pending.proofs.StepLemmas.{loaded-behind}
use Rattle.dj_pending.proofs.built.Built.load.Goals as goal

pub returns : goal.returns
returns c = record {
  loaded = rw c.in-Some.is (loaded-behind (view_stms c.args.self.now.emitted) c.args.of c.args.self.now.next (stacked c.args.self.now.stack) (view_local c.in-Some.local.now) (view_static c.in_ok-kind.kind) (view_atom c.in_ok-atom.atom) _
      (sym c.takes_kind.ensures.takes ∙ c.if-not-takes_kind.false) c.in_ok-kind.ensures.kind c.in_ok-atom.ensures.equal c.in_ok-push.ensures.pushed);
}
