use Rattle.std.specs.Option.{option_copied}
use Rattle.dj_class.specs.FileFormat.{lawful_in_method}
use Rattle.dj_class.specs.FileParts.{HasFound}
use Rattle.dj_class.proofs.AttributesInTurn.{IsInTurn}
use Rattle.dj_class.proofs.bodies.method_attribute_list.Given as goal

abbrev pub invariant-loop : goal.invariant-loop
invariant-loop l = IsInTurn (lawful_in_method l.pool) (HasFound l.pool) l.count l.bytes (option_copied l.found.code, l.found.thrown) l.rest l.counter
