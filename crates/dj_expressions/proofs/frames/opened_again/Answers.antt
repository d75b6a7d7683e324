use Rattle.std.proofs.Common.{ap}
use Rattle.dj_syntax.specs.Trees.{view_exp}
use Rattle.dj_expressions.specs.declared.frames.Pending.TheVariants as pendings
use Rattle.dj_expressions.proofs.OpenLemmas.{seen_more}
use Rattle.dj_expressions.proofs.frames.opened_again.Goals as goal

pub returns-in-Ok : goal.returns-in-Ok
returns-in-Ok c = record {
  opened = ap (λ around. (view_exp c.args.value, around)) (seen_more c.args.pending c.push.new.self (pendings.Opens c.args.opener) c.in-Ok.ensures.ok);
}
