use Rattle.dj_layout.specs.Layout.{SpellsAny}
use Rattle.dj_layout.specs.Parts.{times}
use Rattle.dj_pool.specs.SharedParts.{attribute}
use Rattle.dj_class.proofs.skipped.skip_attribute_list.Given as goal

abbrev pub invariant-loop : goal.invariant-loop
invariant-loop l = SpellsAny (times l.counter attribute) l.bytes l.rest
