use Rattle.std.proofs.Common.{length, sym, ap, ◌∙◌}
use Rattle.std.specs.Ordering.{nat_cmp}
use Rattle.std.specs.Cmp.Lexicographic.{slice_cmp}
use Rattle.std.specs.BTreeMap as tree
use Rattle.std.specs.Option.{option_copied}
use Rattle.dj_pool.specs.PoolFormat.{text_at}
use Rattle.dj_write.proofs.Finding.{is_found, text_inside}
use Rattle.dj_write.proofs.index.Index.text.Goals as goal

pub unreachable-requires : goal.unreachable-requires
unreachable-requires c =
    let pool = c.self.inside.pool.now in
    is_found (text_at pool) (length pool) (tree.get (slice_cmp nat_cmp) c.self.inside.texts) c.args.units.now c.self.invariant.by_text (rw c.self.view_is c.requires.there) (text_inside pool c.args.units.now)
    (sym c.get.ensures.value ∙ ap option_copied c.in-None.is)
