use Rattle.dj_layout.specs.Layout.{Spells}
use Rattle.dj_layout.specs.Parts.{times}
use Rattle.dj_code.specs.CodeContent.{handler}
use Rattle.dj_code.proofs.content.handler_list.Given as goal

abbrev pub invariant-loop : goal.invariant-loop
invariant-loop l = Spells (times l.counter handler) l.bytes l.found l.rest
