use Rattle.std.proofs.Common.{◌≡◌, Some, arith}
use Rattle.dj_names.specs.declared.types.JType.{JType}
use Rattle.dj_names.specs.Headers.{Name}
use Rattle.dj_names.specs.Types.{view_type}
use Rattle.dj_world.specs.Named.{class_of}
use Rattle.dj_causes.proofs.HeadLemmas.{gained_none, gained_more, gained_all}
use Rattle.dj_causes.proofs.unsaid.add_types.Goals as goal

pub loop-kind-init : goal.loop-kind-init
loop-kind-init c = gained_none (λ (name : Name) (kind : JType). class_of (view_type kind) ≡ Some name) c.args.kinds.now c.args.names.now

pub loop-kind-preserved : goal.loop-kind-preserved
loop-kind-preserved c =
    gained_more (λ (name : Name) (kind : JType). class_of (view_type kind) ≡ Some name) c.args.kinds.now c.loop-kind.kind-index c.kind-item.result c.args.names.now c.loop-kind.names c.add_type.new.names (omega arith) c.kind-item.is
    c.loop-kind.invariant c.in_ok-add_type.ensures.gains

pub returns : goal.returns
returns c = record { gains = gained_all (λ (name : Name) (kind : JType). class_of (view_type kind) ≡ Some name) c.args.kinds.now c.loop-kind.kind-index c.args.names.now c.loop-kind.names (omega arith) c.loop-kind.invariant }
