use Rattle.std.proofs.Common.{rules, append_assoc}
use Rattle.std.proofs.lemmas.Grind.{flat_map-append}
use Rattle.std.proofs.Common.{subst}
use Rattle.std.specs.List.{AllByRecursion}
use Rattle.dj_syntax.specs.WellFormed.{IsQualified}
use Rattle.dj_print.proofs.PrintLemmas.{first_rest}
use Rattle.dj_print.proofs.Composing.{five}
use Rattle.dj_print.proofs.print.names.class_list.Goals as goal

pub returns-in-len1-up : goal.returns-in-len1-up
returns-in-len1-up g c =
    record { prints = let e = first_rest c.args.classes.now c.first-item.result c.in-len1-up.len_at_least c.first-item.is in five g.O.Out.prints g.met.O.Out.then c.put.ensures.prints c.put-in-len1-up.ensures.prints c.put-in-len1-up-2.ensures.prints c.class_name.ensures.prints c.more_classes.ensures.prints (rw e (search (rules, append_assoc, flat_map-append))) }

pub class_name-requires : goal.class_name-requires
class_name-requires g c =
    let e = first_rest c.args.classes.now c.first-item.result c.in-len1-up.len_at_least c.first-item.is in record { qualified = (subst (AllByRecursion IsQualified) e c.requires.qualified).0 }

pub more_classes-requires : goal.more_classes-requires
more_classes-requires g c =
    let e = first_rest c.args.classes.now c.first-item.result c.in-len1-up.len_at_least c.first-item.is in record { qualified = (subst (AllByRecursion IsQualified) e c.requires.qualified).1 }
