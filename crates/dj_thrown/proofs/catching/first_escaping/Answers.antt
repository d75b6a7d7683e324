use Rattle.std.proofs.Common.{ap, ◌∙◌}
use Rattle.dj_places.specs.declared.kind.TypeKind.TheVariants.{Thrown}
use Rattle.dj_faults.specs.Faults.{lower, fault_at}
use Rattle.dj_thrown.proofs.EscapingLemmas.{escaping_more}
use Rattle.dj_thrown.proofs.catching.first_escaping.Goals as goal

pub loop-one-preserved : goal.loop-one-preserved
loop-one-preserved c =
    escaping_more c.args.headers.now c.args.declared.now c.args.thrown.now c.loop-one.one-index c.one-item.result c.loop-one.fault _ _ c.loop-one-test.true c.one-item.is
    (c.lower-fault.ensures.lower ∙ ap (lower c.loop-one.fault) (c.broken.ensures.broken ∙ ap (fault_at c.one-item.result.place Thrown) c.may_escape-kept.ensures.may))
    c.loop-one.invariant
