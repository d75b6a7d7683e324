use Rattle.dj_class.specs.FileFormat.{lawful_in_field}
use Rattle.dj_class.specs.FileParts.{HasConstantIndex}
use Rattle.dj_class.proofs.AttributesInTurn.{IsInTurn}
use Rattle.dj_class.proofs.constants.field_attribute_list.Given as goal

abbrev pub invariant-loop : goal.invariant-loop
invariant-loop l = IsInTurn (lawful_in_field l.pool l.descriptor) (HasConstantIndex l.pool) l.count l.bytes l.found l.rest l.counter
