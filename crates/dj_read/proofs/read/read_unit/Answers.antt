use Rattle.std.proofs.Common.{sym, ◌∙◌}
use Rattle.std.proofs.lemmas.Bool.{false≢true}
use Rattle.dj_syntax.specs.Trees.{view_unit}
use Rattle.dj_read.proofs.Misreading.{no_text}
use Rattle.dj_read.proofs.read.read_unit.Goals as goal

pub returns-else-is_spelled-clause-fault : goal.returns-else-is_spelled-clause-fault
returns-else-is_spelled-clause-fault c = (
  λ deep. false≢true (sym c.if-branch.false ∙ c.in_ok-is_deep.ensures.deep.1 deep),
  no_text c.args.bytes.now (view_unit c.in_ok-unit.unit) c.in_ok-unit.ensures.parsed
      (λ is. false≢true (sym c.if-is_spelled.false ∙ c.is_spelled.ensures.spelled.1 is)),
)
