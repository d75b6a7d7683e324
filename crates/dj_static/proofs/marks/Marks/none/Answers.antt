use Rattle.std.specs.BTreeSet.{contains}
use Rattle.std.specs.Ordering.{nat_cmp}
use Rattle.dj_static.proofs.MarkLemmas.{none_marked}
use Rattle.dj_static.proofs.marks.Marks.none.Goals as goal

pub returns : goal.returns
returns c = record { none = none_marked (contains nat_cmp c.no_places.result) 0 c.args.count c.no_places.ensures.none }
