use Rattle.dj_names.specs.Types.{view_type}
use Rattle.dj_print.specs.Spelled.{spellings}
use Rattle.dj_print.proofs.TreeTexts.{array_text, view_array}
use Rattle.dj_print.proofs.Composing.{two}
use Rattle.dj_print.proofs.print.types.+type_name.Goals as goal

pub returns-in-Array : goal.returns-in-Array
returns-in-Array g t c =
    record { prints = two g.O.Out.prints g.met.O.Out.then c.type_name.ensures.prints c.put-in-Array.ensures.prints (let v = view_array c.in-Array.element in rw (c.in-Array.is, v, c.get.ensures.value) (array_text (spellings c.args.unit.now) (view_type c.in-Array.element))) }
