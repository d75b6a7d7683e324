use Rattle.std.proofs.Common.{List, ◌∙◌, ap}
use Rattle.std.specs.Prelude.{slice_get}
use Rattle.std.specs.Option.{option_copied, option_and_then}
use Rattle.dj_pool.specs.declared.parsed.Parsed.{Parsed}
use Rattle.dj_pool.proofs.PoolTables.{table_reads}
use Rattle.dj_pool.proofs.pool.Pool.descriptor_at.Goals as goal

pub returns : goal.returns
returns c =
    let kept = c.parsed_descriptor.ensures.kept ∙ ap (λ (t : List Parsed). option_and_then (λ (p : Parsed). p.descriptor) (slice_get t c.args.index)) c.deref.ensures.value in
    rw (← c.self.view_is) record { read = table_reads c.self.inside.entries c.self.inside.parsed.items c.args.index (option_copied c.parsed_descriptor.result) c.self.invariant kept }
