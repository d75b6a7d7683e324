use Rattle.dj_layout.specs.Layout.{Spells}
use Rattle.dj_layout.specs.Parts.{times}
use Rattle.dj_pool.specs.SharedParts.{attribute}
use Rattle.dj_pool.proofs.raw.attribute_list.Given as goal

abbrev pub invariant-loop : goal.invariant-loop
invariant-loop l = Spells (times l.counter attribute) l.bytes l.found l.rest
