use Rattle.std.proofs.Common.{ap}
use Rattle.dj_grammar.specs.Readings.{Wanted}
use Rattle.dj_expressions.specs.declared.frames.Pending.TheVariants as pendings
use Rattle.dj_expressions.proofs.OpenLemmas.{seen_more}
use Rattle.dj_expressions.proofs.brackets.open_more.Goals as goal

pub returns : goal.returns
returns c = record { opened = ap Wanted (seen_more c.args.pending c.push.new.self (pendings.Opens c.args.opener) c.in_ok-push.ensures.ok) }
