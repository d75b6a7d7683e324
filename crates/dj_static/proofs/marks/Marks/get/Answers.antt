use Rattle.std.proofs.Common.{Bool, List, Some, ap, ◌∙◌}
use Rattle.std.specs.Prelude.{slice_get}
use Rattle.std.specs.BTreeSet.{contains}
use Rattle.std.specs.Ordering.{nat_cmp}
use Rattle.dj_static.proofs.MarkLemmas.{mark_of, no_mark}
use Rattle.dj_static.proofs.marks.Marks.get.Goals as goal

pub returns-then-place-self : goal.returns-then-place-self
returns-then-place-self c = record {
  mark =
      ap Some c.contains.ensures
      ∙ mark_of (contains nat_cmp c.self.inside.places) c.self.inside.count c.args.place c.if-place-self.true ∙ ap (λ (marks : List Bool). slice_get marks c.args.place) c.self.view_is;
}

pub returns-else-place-self : goal.returns-else-place-self
returns-else-place-self c = record {
  mark = no_mark (contains nat_cmp c.self.inside.places) 0 c.self.inside.count c.args.place c.if-place-self.false ∙ ap (λ (marks : List Bool). slice_get marks c.args.place) c.self.view_is;
}
