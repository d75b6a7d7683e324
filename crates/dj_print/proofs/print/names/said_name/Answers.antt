use Rattle.dj_print.proofs.NamesAreAscii.{qualified_sayable}
use Rattle.dj_print.proofs.print.names.said_name.Goals as goal

pub class_name-requires : goal.class_name-requires
class_name-requires g c = record { qualified = qualified_sayable _ c.requires.sayable }
