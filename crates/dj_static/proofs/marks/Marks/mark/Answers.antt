use Rattle.std.proofs.Common.{Bool, List, true, ap, ◌∙◌}
use Rattle.std.specs.Prelude.{slice_set}
use Rattle.std.specs.BTreeSet.{contains}
use Rattle.std.specs.Ordering.{nat_cmp}
use Rattle.dj_static.proofs.MarkLemmas.{marked}
use Rattle.dj_static.proofs.marks.Marks.mark.Goals as goal

pub returns : goal.returns
returns c = record {
  marked =
      marked (contains nat_cmp c.self.inside.places) (contains nat_cmp c.add.new.places) c.args.place c.in_ok-add.ensures.added c.self.inside.count
      ∙ ap (λ (marks : List Bool). slice_set marks c.args.place true) c.self.view_is;
}
