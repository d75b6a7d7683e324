use Rattle.std.proofs.Common.{sym, ◌∙◌, true, false, arith}
use Rattle.dj_static.proofs.WalkLemmas.{only_is}
use Rattle.dj_static.proofs.walks.only.Goals as goal

pub returns-then-are_all : goal.returns-then-are_all
returns-then-are_all c = record { only = only_is c.args.places.now true (omega arith) (sym c.if-are_all.true ∙ c.are_all.ensures.all) }

pub returns-else-are_all : goal.returns-else-are_all
returns-else-are_all c = record { only = only_is c.args.places.now false (omega arith) (sym c.if-are_all.false ∙ c.are_all.ensures.all) }
