use Rattle.dj_layout.specs.Layout.{SpellsAny}
use Rattle.dj_layout.specs.Parts.{times}
use Rattle.dj_class.specs.FileFormat.{named}
use Rattle.dj_class.proofs.listed.skip_named_list.Given as goal

abbrev pub invariant-loop : goal.invariant-loop
invariant-loop l = SpellsAny (times l.counter (named l.pool)) l.bytes l.rest
