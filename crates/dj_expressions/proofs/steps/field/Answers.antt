use Rattle.dj_expressions.proofs.MadeLemmas.{made-field}
use Rattle.dj_expressions.proofs.steps.field.Goals as goal

pub returns : goal.returns
returns c = record {
  field = made-field c.args.object c.in_ok-object.object c.in_ok-name.name c.args.word.now c.in_ok-object.ensures c.in_ok-name.ensures.units;
}
