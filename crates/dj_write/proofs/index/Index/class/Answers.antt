use Rattle.std.proofs.Common.{length, sym, ap, ◌∙◌}
use Rattle.std.specs.Ordering.{nat_cmp}
use Rattle.std.specs.Cmp.Lexicographic.{slice_cmp}
use Rattle.std.specs.BTreeMap as tree
use Rattle.std.specs.Option.{option_copied}
use Rattle.dj_pool.specs.PoolFormat.{class_at}
use Rattle.dj_write.proofs.Finding.{is_found, class_inside}
use Rattle.dj_write.proofs.index.Index.class.Goals as goal

pub unreachable-requires : goal.unreachable-requires
unreachable-requires c =
    let pool = c.self.inside.pool.now in
    is_found (class_at pool) (length pool) (tree.get (slice_cmp nat_cmp) c.self.inside.classes) c.args.name.now c.self.invariant.by_class (rw c.self.view_is c.requires.there) (class_inside pool c.args.name.now)
    (sym c.get.ensures.value ∙ ap option_copied c.in-None.is)
