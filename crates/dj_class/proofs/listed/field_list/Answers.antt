use Rattle.std.proofs.Common.{map, ap, ◌∙◌}
use Rattle.std.proofs.lemmas.List.{map_push}
use Rattle.dj_layout.proofs.Loops.{as_more}
use Rattle.dj_class.specs.Views.{view_field}
use Rattle.dj_class.specs.FileFormat.{field}
use Rattle.dj_class.specs.Described.{DescribesField}
use Rattle.dj_class.proofs.ListedParts.{as_none}
use Rattle.dj_class.proofs.listed.field_list.Goals as goal

pub loop-preserved : goal.loop-preserved
loop-preserved c =
    as_more (field c.args.pool.now) (DescribesField c.args.pool.now) c.loop.counter c.args.bytes.now c.loop.rest.now c.in_ok-field.after.now (map view_field c.loop.found) (map view_field c.push.new.self) (view_field c.in_ok-field.field) c.loop.invariant c.in_ok-field.ensures.reads
    (ap (map view_field) c.in_ok-push.ensures.ok ∙ map_push view_field c.loop.found c.in_ok-field.field)

pub loop-init : goal.loop-init
loop-init c = rw c.new-found.ensures (as_none (field c.args.pool.now) (DescribesField c.args.pool.now) c.args.bytes.now)
