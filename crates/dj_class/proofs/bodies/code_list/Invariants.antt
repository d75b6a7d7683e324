use Rattle.dj_layout.specs.Layout.{SpellsSome}
use Rattle.dj_layout.specs.Parts.{times}
use Rattle.dj_pool.specs.SharedParts.{attribute}
use Rattle.dj_class.specs.FileParts.{HasNoCode}
use Rattle.dj_class.proofs.bodies.code_list.Given as goal

abbrev pub invariant-loop : goal.invariant-loop
invariant-loop l = SpellsSome (times l.counter attribute) (HasNoCode l.pool) l.bytes l.none l.rest
