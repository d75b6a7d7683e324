use Rattle.std.proofs.lemmas.List.{take-replicate}
use Rattle.dj_outer.proofs.PutsLemmas.{puts-as}
use Rattle.dj_report.proofs.putting.descriptors.put_brackets.Goals as goal

pub returns : goal.returns
returns g c = record { puts = puts-as (take-replicate c.args.count 255 91 c.requires.few) c.put_piece.ensures.puts }
