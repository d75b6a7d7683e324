use Rattle.std.proofs.Common.{◌≡◌, List, Some, length, sym, ap, subst, ◌∙◌, rules}
use Rattle.std.specs.BTreeMap as tree
use Rattle.std.specs.Option.{option_copied}
use Rattle.dj_pool.specs.declared.entry.Entry.{Entry}
use Rattle.dj_write.specs.Found.{key_at, key_cmp}
use Rattle.dj_write.proofs.Finding.{is_found, key_inside}
use Rattle.dj_write.proofs.index.Index.by_key.Goals as goal

pub unreachable-requires : goal.unreachable-requires
unreachable-requires c =
    let pool = c.self.inside.pool.now in
    is_found (key_at pool) (length pool) (tree.get key_cmp c.self.inside.constants) c.args.key.now c.self.invariant.by_constant (rw c.self.view_is c.requires.there) (key_inside pool c.args.key.now)
    (sym c.get.ensures.value ∙ ap option_copied c.in-None.is)

pub returns : goal.returns
returns c =
    let key = c.args.key.now in
    let index = c.in-Some.index.now in
    let kept = sym c.get.ensures.value ∙ ap option_copied c.in-Some.is in
    let led : key_at c.args.self.now index ≡ Some key = subst (λ (pool : List Entry). key_at pool index ≡ Some key) c.self.view_is (c.self.invariant.by_constant.right key index kept) in
    record { leads = record { small = search rules; leads = led } }
