use Rattle.std.proofs.Common.{map}
use Rattle.dj_headers.specs.Table.{bare}
use Rattle.dj_headers.proofs.PathLemmas.{Implements-bare}
use Rattle.dj_headers.proofs.headers.Headers.is_subclass.Goals as goal

pub returns : goal.returns
returns c =
    let lower = c.args.lower.now in
    let upper = c.args.upper.now in
    let bare_is = Implements-bare c.self.inside.headers lower upper in
    let table = c.has_above.ensures.above (map bare c.self.inside.headers) c.self.invariant.tables.index (rw c.as_slice.ensures.value c.self.invariant.tables.lines) in
    rw (← c.self.view_is) (record { subclass = (λ yes. bare_is.0 (table.0 yes), λ is. table.1 (bare_is.1 is)) })
