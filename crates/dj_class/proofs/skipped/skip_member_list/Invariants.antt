use Rattle.dj_layout.specs.Layout.{SpellsAny}
use Rattle.dj_layout.specs.Parts.{times}
use Rattle.dj_class.specs.Members.{member}
use Rattle.dj_class.proofs.skipped.skip_member_list.Given as goal

abbrev pub invariant-loop : goal.invariant-loop
invariant-loop l = SpellsAny (times l.counter member) l.bytes l.rest
