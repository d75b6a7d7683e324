use Rattle.std.proofs.Common.{ap, ◌∙◌}
use Rattle.dj_syntax.specs.Trees.{view_catches}
use Rattle.dj_statements.proofs.OpenLemmas.{catches_more}
use Rattle.dj_statements.proofs.braces.with_catch.Goals as goal

pub returns : goal.returns
returns c = record { more = ap view_catches c.in_ok-push.ensures.ok ∙ catches_more c.args.catches c.args.catch }
