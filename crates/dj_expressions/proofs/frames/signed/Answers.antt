use Rattle.dj_expressions.proofs.ValueLemmas.{signed-other}
use Rattle.dj_expressions.proofs.frames.signed.Goals as goal

pub returns-in_default : goal.returns-in_default
returns-in_default c = record { signed = rw (signed-other c.args.value c.in_default.not-Int c.in_default.not-Long) c.minus_before.ensures.minus }
