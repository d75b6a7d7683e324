use Rattle.std.proofs.Common.{rules, append_assoc}
use Rattle.std.proofs.lemmas.Grind.{flat_map-append}
use Rattle.std.proofs.Common.{subst}
use Rattle.std.specs.List.{AllByRecursion}
use Rattle.dj_names.specs.Types.{view_types}
use Rattle.dj_syntax.specs.WellFormed.{IsNamed}
use Rattle.dj_print.proofs.PrintLemmas.{first_rest}
use Rattle.dj_print.proofs.Composing.{two}
use Rattle.dj_print.proofs.print.method.all_parameters.Goals as goal

pub returns-in-len1-up : goal.returns-in-len1-up
returns-in-len1-up g c =
    record { prints = let e = first_rest c.args.kinds.now c.first-item.result c.in-len1-up.len_at_least c.first-item.is in two g.O.Out.prints g.met.O.Out.then c.parameter.ensures.prints c.more_parameters.ensures.prints (rw e (search (rules, append_assoc, flat_map-append))) }

pub parameter-requires : goal.parameter-requires
parameter-requires g c =
    let e = first_rest c.args.kinds.now c.first-item.result c.in-len1-up.len_at_least c.first-item.is in record { named = (subst (λ kinds. AllByRecursion IsNamed (view_types kinds)) e c.requires.named).0 }

pub more_parameters-requires : goal.more_parameters-requires
more_parameters-requires g c =
    let e = first_rest c.args.kinds.now c.first-item.result c.in-len1-up.len_at_least c.first-item.is in record { named = (subst (λ kinds. AllByRecursion IsNamed (view_types kinds)) e c.requires.named).1 }
