use Rattle.dj_pool.proofs.PoolTables.{table_names}
use Rattle.dj_pool.proofs.pool.Pool.is_class_name_at.Goals as goal

pub returns : goal.returns
returns c =
    let tells = table_names c.self.inside.entries c.self.inside.parsed.items c.args.index c.self.invariant in
    let kept = rw c.deref.ensures.value at c.is_named.ensures.kept in
    rw (← c.self.view_is) record { named = (λ yes. tells.0 (kept.0 yes), λ is. kept.1 (tells.1 is)) }
