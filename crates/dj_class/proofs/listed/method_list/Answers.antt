use Rattle.std.proofs.Common.{map, ap, ◌∙◌}
use Rattle.std.proofs.lemmas.List.{map_push}
use Rattle.dj_layout.proofs.Loops.{as_more}
use Rattle.dj_class.specs.Views.{view_method}
use Rattle.dj_class.specs.FileFormat.{method}
use Rattle.dj_class.specs.Described.{DescribesMethod}
use Rattle.dj_class.proofs.ListedParts.{as_none}
use Rattle.dj_class.proofs.listed.method_list.Goals as goal

pub loop-preserved : goal.loop-preserved
loop-preserved c =
    as_more (method c.args.pool.now) (DescribesMethod c.args.pool.now) c.loop.counter c.args.bytes.now c.loop.rest.now c.in_ok-method.after.now (map view_method c.loop.found) (map view_method c.push.new.self) (view_method c.in_ok-method.method) c.loop.invariant c.in_ok-method.ensures.reads
    (ap (map view_method) c.in_ok-push.ensures.ok ∙ map_push view_method c.loop.found c.in_ok-method.method)

pub loop-init : goal.loop-init
loop-init c = rw c.new-found.ensures (as_none (method c.args.pool.now) (DescribesMethod c.args.pool.now) c.args.bytes.now)
