use Rattle.std.proofs.Common.{List, [], ◌∷◌, ◌++◌, ap, refl, arith}
use Rattle.std.specs.Prelude.{codes}
use Rattle.std.specs.List.{flat_map}
use Rattle.dj_syntax.specs.Items.{Item, Space, render}
use Rattle.dj_syntax.specs.UnitText.{sign}
use Rattle.dj_syntax.specs.WellFormed.{IsQualified}
use Rattle.dj_print.specs.Spelled.{spellings}
use Rattle.dj_print.proofs.Composing.{same}
use Rattle.dj_print.proofs.WellFormedLists.{item}
use Rattle.dj_print.proofs.ListTexts.{all_done, later_class, one_more, seen_flat}
use Rattle.dj_print.proofs.Composing.{two}
use Rattle.dj_print.proofs.print.names.more_classes.Goals as goal

pub class_name-requires : goal.class_name-requires
class_name-requires g c =
    record { qualified = item IsQualified c.args.classes.now c.loop-class.class-index _ (omega arith) c.class-item.is c.requires.qualified }

pub loop-class-init : goal.loop-class-init
loop-class-init g c = g.met.O.Out.nothing _

pub loop-class-preserved : goal.loop-class-preserved
loop-class-preserved g c =
    one_more g.O.Out.prints g.met.O.Out.then (later_class (spellings c.args.unit.now)) c.args.classes.now c.loop-class.class-index _ (omega arith) c.class-item.is c.loop-class.invariant (two g.O.Out.prints g.met.O.Out.then c.put.ensures.prints c.class_name.ensures.prints refl)

pub returns : goal.returns
returns g c =
    record { prints = same g.O.Out.prints (all_done g.O.Out.prints (λ list. render (flat_map (later_class (spellings c.args.unit.now)) list)) c.args.classes.now c.loop-class.class-index (omega arith) c.loop-class.invariant) (ap render (seen_flat (λ (piece : List Item). (sign (codes ",") ∷ Space ∷ []) ++ piece) (spellings c.args.unit.now).class_name c.args.classes.now)) }
