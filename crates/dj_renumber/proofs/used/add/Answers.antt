use Rattle.std.proofs.Common.{◌∙◌}
use Rattle.dj_renumber.proofs.Numbers.{inserted}
use Rattle.dj_renumber.proofs.used.add.Goals as goal

pub returns : goal.returns
returns c = record { listed = c.in_ok-insert.ensures.keys ∙ inserted c.args.numbers.now.keys c.args.number }
